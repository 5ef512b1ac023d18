pub mod Work
pub mod Dues
pub mod RouterState
