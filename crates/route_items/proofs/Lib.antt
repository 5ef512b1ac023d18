pub mod Appended
mod Coming
mod Entries
mod Numbers
mod Moves
mod Found
