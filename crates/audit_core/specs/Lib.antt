pub mod Auditor
pub mod Verdict
pub mod Stops
pub mod Report
pub mod Watching
