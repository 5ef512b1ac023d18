pub mod Writing
pub mod Answering
pub mod Replies
