pub mod Laws
mod LawsOfAnswer
mod LawsOfMasks
mod LawsOfSending
mod LawsOfStep
mod Outboxes
mod Turning
mod Writing
