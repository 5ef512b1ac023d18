pub mod Consumers
pub mod Pick
pub mod Answer
pub mod Quiet
pub mod Diligent
pub mod Order
pub mod Turn
