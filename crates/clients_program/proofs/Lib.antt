pub mod Small
pub mod Greetings
pub mod Counted
