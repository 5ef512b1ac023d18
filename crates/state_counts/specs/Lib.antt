pub mod Sessions
pub mod LinkCounts
