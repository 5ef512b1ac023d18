mod Telling
pub mod TimeOuts
pub mod LacedOn
pub mod Going
pub mod FedOn
pub mod GivenOn
mod FramesOn
mod Examples
mod LacedExamples
mod Closes
mod Laced
mod Putting
mod Serves
mod NotedOn
pub mod ServedOn
mod CauseExamples
mod ScriptExamples
