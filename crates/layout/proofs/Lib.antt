pub mod Laws
pub mod Back
mod Loops
mod Wholes
