pub mod OutcomeSize
pub mod Told
