pub mod Laws
pub mod Doors
pub mod Causes
mod Records
mod Starts
