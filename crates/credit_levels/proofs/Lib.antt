-- proofs/Lib.antt
pub mod Places
pub mod Examples
mod Taking
mod SeenAs
mod DrawnExamples
