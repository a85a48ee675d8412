pub mod Laws
mod Masks
mod Setups
mod Reading
mod Standing
