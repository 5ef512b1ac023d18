mod Fronts
mod Said
mod Following
mod Examples
