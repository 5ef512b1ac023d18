-- specs/Lib.antt
pub mod Marks
pub mod Outcomes
pub mod Shown
pub mod Places
pub mod Drawn
