pub mod Page
pub mod Summary
pub mod Ending
pub mod Shown
pub mod Taken
