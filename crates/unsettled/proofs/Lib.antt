pub mod Cuts
pub mod Entries
pub mod Joins
pub mod Order
