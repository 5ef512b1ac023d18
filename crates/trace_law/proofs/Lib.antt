pub mod Checking
pub mod Payloads
pub mod Messages
mod Copies
mod Counted
mod KnownAll
