pub mod Desks
pub mod Turns
pub mod Recordings
pub mod Stepping
pub mod Lines
pub mod Servers
