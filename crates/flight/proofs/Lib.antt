pub mod Laws
mod Laid
mod Packing
mod Sweep
