mod ClosingsKnown
mod ToldKnown
mod OutgoingKnown
mod LetGoKnown
mod LetGoNext
mod LastsKept
mod CompletedExamples
mod TablesExamples
mod CarriedKnown
mod CarriedLast
mod CarriedThere
pub mod LiveKnown
pub mod NextKnown
mod Moved
