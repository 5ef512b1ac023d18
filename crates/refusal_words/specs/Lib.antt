pub mod Session
pub mod Link
pub mod Tables
pub mod Compared
