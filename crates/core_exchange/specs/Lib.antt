pub mod Captures
pub mod Seats
