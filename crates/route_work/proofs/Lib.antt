pub mod Follow
pub mod Turns
pub mod Entering
