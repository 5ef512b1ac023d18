pub mod Counting
pub mod SenderCounts
pub mod GivenCounts
pub mod ConsumerHistory
pub mod ProducerHistory
