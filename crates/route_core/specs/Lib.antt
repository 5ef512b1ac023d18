pub mod Replies
pub mod Outputs
pub mod Drafts
pub mod KernelState
pub mod Kernels
pub mod Cores
