pub mod Said
pub mod Greeting
pub mod Outcomes
pub mod Counts
pub mod Run
