mod SentSteps
mod SentLinks
mod SentBegun
pub mod SentDecided
mod SentFollowed
mod SentKnown
mod SentUntouched
pub mod SentKept
mod SentSparse
mod SentPayload
mod OutgoingNumbers
pub mod LastBegun
mod CarriersKnown
mod LeastNumbers
mod ToSettle
pub mod AnswersKnown
mod Removed
mod SentRegrouped
mod LeftLinks
mod LetGoStands
pub mod LastKept
mod SpokenNone
mod Places
mod SentFound
mod SentTaken
mod VerdictsGiven
mod SpokenAmong
mod SentExamples
mod LetGoExamples
mod LastExamples
mod EarliestExamples
pub mod OutgoingCounts
mod UnsettledCount
mod UnsettledExamples
