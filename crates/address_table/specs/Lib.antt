pub mod Refusals
pub mod Served
pub mod Picking
pub mod AddressLinks
pub mod Links
pub mod History
