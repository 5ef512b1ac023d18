pub mod Newest
mod Examples
mod TableExamples
