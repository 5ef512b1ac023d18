mod GrowingExamples
mod RunLemmas
mod WordExamples
mod WordLemmas
