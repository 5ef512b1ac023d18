mod Drafts
mod Entered
mod Heard
pub mod Outputs
pub mod Replied
mod ShortReplies
mod OutputExamples
mod Extended
mod Histories
pub mod Stepped
mod KernelStateExamples
mod Kept
mod Runs
