-- specs/Lib.antt
pub mod Pick
pub mod Levels
pub mod Taken
pub mod Drawn
