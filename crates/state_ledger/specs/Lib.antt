pub mod Ledger
pub mod HeldEvents
pub mod NextEvents
