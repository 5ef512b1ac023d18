pub mod Growing
pub mod Run
pub mod Words
