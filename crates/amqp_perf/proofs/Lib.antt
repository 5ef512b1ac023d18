pub mod Faults
pub mod Fits
pub mod Spoken
pub mod Listed
pub mod Slots
pub mod SlotValues
pub mod Again
pub mod NestedAgain
pub mod Conditions
pub mod Lengths
pub mod Writable
pub mod Within
pub mod Opened
pub mod NumberedStates
pub mod UsualItems
pub mod UsualFields
pub mod UsualTables
mod Messages
mod MessageExamples
