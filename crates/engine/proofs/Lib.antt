pub mod Doors
mod Freshening
pub mod Telling
