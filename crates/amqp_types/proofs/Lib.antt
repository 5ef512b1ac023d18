pub mod Steps
pub mod Octets
pub mod Scalars
pub mod Texts
pub mod Pieces
pub mod Arrays
pub mod Values
pub mod Deeper
pub mod Held
pub mod Constructors
pub mod Loop
pub mod Levels
pub mod PassedOver
pub mod ReadBefore
pub mod SimpleValues
pub mod Front
pub mod ListedValues
pub mod ListNumbers
pub mod Nested
pub mod Shortest
pub mod Written
mod WrittenExamples
mod KnownExamples
