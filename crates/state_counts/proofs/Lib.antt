pub mod LinkSteps
pub mod SessionSteps
