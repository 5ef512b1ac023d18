pub mod Arguments
pub mod Growth
pub mod InputSource
pub mod Telling
pub mod Unread
pub mod Words
