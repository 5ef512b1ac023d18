-- specs/Lib.antt
pub mod Levels
pub mod Thinning
pub mod Places
pub mod Thinned
pub mod Paths
pub mod Curves
