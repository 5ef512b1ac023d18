pub mod Explained
pub mod Seen
pub mod Contents
pub mod Refused
