pub mod Laws
pub mod Doors
pub mod Causes
pub mod Trip
mod Lists
mod Bytes
mod Faults
mod Writing
mod Reading
mod Built
mod Soundness
