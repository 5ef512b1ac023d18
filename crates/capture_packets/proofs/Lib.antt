pub mod HeaderLemmas
pub mod Joining
pub mod BlockLemmas
pub mod TextLemmas
pub mod LawLemmas
pub mod PacketLemmas
mod Examples
pub mod PackLemmas
