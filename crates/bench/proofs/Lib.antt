pub mod Laws
pub mod Doors
mod Described
mod Heads
mod Lists
mod Tested
mod Following
mod Happening
mod After
mod Keeping
