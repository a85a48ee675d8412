mod Change
pub mod Laws
mod Marks
mod Put
mod Room
mod Slots
mod Test
mod WellFormed
