pub mod Steps
pub mod Fronts
pub mod Streams
pub mod FrameWritten
pub mod SaslSpoken
pub mod SaslWritten
mod Examples
