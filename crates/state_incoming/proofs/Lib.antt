mod FateSteps
mod UndecidedSteps
mod HeldSteps
mod HeldExamples
pub mod HeldAnswers
mod HeldKnown
pub mod CompletedKnown
mod HeldUntouched
mod HeldSparse
pub mod OverKnown
mod CopiesLast
pub mod OverLasts
mod LetGo
mod LetGoExamples
mod Regrouped
mod GroupExamples
mod SomeTouched
mod TouchedKnown
mod EndedKnown
mod TouchedAll
mod IncomingNumbers
pub mod GroupAnswers
mod ArrivingKnown
pub mod KnownEntries
pub mod CarriedHeld
mod WaitingCountExamples
