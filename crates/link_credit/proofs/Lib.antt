pub mod Consumed
pub mod Produced
