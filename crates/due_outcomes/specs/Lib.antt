pub mod Candidates
pub mod Parked
pub mod Closings
pub mod Unsettled
pub mod Untold
pub mod DueOutcomes
pub mod Settlings
