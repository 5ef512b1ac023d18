pub use Rattle.indexmap.specs.IndexMap
pub mod Lends
pub mod NumberMap
