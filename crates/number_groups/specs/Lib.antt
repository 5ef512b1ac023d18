pub mod Numbers
pub mod Groups
pub mod OctetGroups
pub mod Ids
pub mod Ascending
