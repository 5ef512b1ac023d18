pub mod Refusals
pub mod Cuts
pub mod Sent
pub mod Deliveries
pub mod History
