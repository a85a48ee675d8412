pub mod Listed
pub mod Doors
pub mod Laws
mod LawsOfAnswer
mod LawsOfOutput
mod LawsOfSwitch
mod Output
pub mod Refusals
pub mod Rows
