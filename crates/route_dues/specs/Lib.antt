pub mod Writing
pub mod Transfers
pub mod Outcomes
pub mod Steps
pub mod Work
pub mod Short
