mod Adding
mod Answering
mod Fit
mod Histories
mod Keeping
pub mod Causes
pub mod Doors
pub mod Laws
mod Refusing
mod Telling
