-- specs/Lib.antt
pub mod Grammar
pub mod Escaping
pub mod Names
pub mod Drawn
pub mod Numbers
pub mod Parts
