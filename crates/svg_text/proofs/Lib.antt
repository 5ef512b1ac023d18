-- proofs/Lib.antt
pub mod Pieces
pub mod Reading
pub mod Octets
pub mod Puts
pub mod Contents
pub mod Fronts
pub mod Examples
pub mod Drawings
