pub mod Bits
mod Cases
pub mod Effects
pub mod Laws
mod LawsOfMask
mod LawsOfTable
pub mod Ways
pub mod Words
