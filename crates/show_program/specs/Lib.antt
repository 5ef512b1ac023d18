pub mod Words
pub mod Asked
pub mod Charts
pub mod Run
