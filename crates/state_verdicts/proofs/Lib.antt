mod TableSteps
mod VerdictsNext
mod Answered
mod Copied
mod VerdictsLetGo
mod LetGoExamples
mod Refused
