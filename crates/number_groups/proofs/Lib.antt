pub mod Entries
pub mod Moves
pub mod Octets
mod Examples
pub mod Passing
