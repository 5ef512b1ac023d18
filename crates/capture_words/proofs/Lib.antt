pub mod Heads
pub mod Known
pub mod Streaming
mod Examples
