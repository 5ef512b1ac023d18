-- proofs/Lib.antt
pub mod Extents
mod Spans
mod Columns
mod Places
mod PutColumns
pub mod Drawing
pub mod Examples
