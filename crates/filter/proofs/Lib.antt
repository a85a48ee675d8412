pub mod Laws
mod Bytes
mod Cells
mod Places
mod Records
mod Lengths
mod Formed
mod Triples
