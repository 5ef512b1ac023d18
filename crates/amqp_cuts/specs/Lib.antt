pub mod Layout
pub mod Offsets
pub mod Passing
pub mod Sections
pub mod Address
pub mod Joined
pub mod Slices
