pub mod Completed
pub mod Tables
pub mod Effects
