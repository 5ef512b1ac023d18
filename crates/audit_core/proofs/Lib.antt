mod AuditorExamples
mod ReadSteps
mod Watches
mod FrontText
mod Streams
mod ReadSoFar
mod TextLengths
mod Taken
pub mod Verdicts
pub mod Unread
pub mod Recorded
pub mod Answered
