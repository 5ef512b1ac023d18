mod Opens
mod Gathered
mod FaultExamples
pub mod Listing
