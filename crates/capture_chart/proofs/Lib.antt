-- proofs/Lib.antt
pub mod Titles
pub mod DeliveryKeys
pub mod Following
pub mod Drawings
pub mod LaneLemmas
pub mod Examples
pub mod OutcomeExamples
