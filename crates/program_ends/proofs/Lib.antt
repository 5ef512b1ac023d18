mod Examples
pub mod Parsing
pub mod PlainWords
pub mod Statuses
pub mod Sources
