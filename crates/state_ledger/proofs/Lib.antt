mod Entered
mod HeldAnswers
mod UnopenedRecords
pub mod NextAnswers
mod EventExamples
mod LedgerExamples
