pub mod Endings
pub mod Orders
pub mod Words
