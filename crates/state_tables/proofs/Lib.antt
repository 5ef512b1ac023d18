pub mod GroupLists
mod ConnectionSteps
mod SeenSame
mod UnansweredSteps
mod KeptSteps
mod EntrySteps
mod RetireSteps
mod LiveEntries
mod HandleSteps
mod HandlesOfChannels
mod HandleTables
mod LinksTaken
mod LiveHandles
pub mod OpenedKnown
pub mod EndedMembers
pub mod EndedSteps
pub mod EndedTables
pub mod EndedLaw
pub mod ConsumerSteps
pub mod ConsumersOf
pub mod ConsumerLinkSteps
mod ConsumerExamples
mod Leaving
mod CopyNumbers
mod CopySteps
mod CopiesKnown
mod CopiesExamples
mod TableSteps
mod ReceiversOf
