pub mod Words
pub mod Asking
pub mod RuleWords
pub mod Service
pub mod RunEnd
