pub mod RunLemmas
pub mod WordLemmas
pub mod Charting
mod WordExamples
