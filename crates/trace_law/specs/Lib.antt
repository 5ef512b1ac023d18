pub mod Check
pub mod Copied
pub mod OnStack
pub mod Payloads
pub mod Messages
