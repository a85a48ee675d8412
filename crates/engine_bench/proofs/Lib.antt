mod Benching
mod Describing
pub mod Doors
