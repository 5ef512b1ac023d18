pub mod OutcomeSizes
mod DecidedRows
mod FirstRows
