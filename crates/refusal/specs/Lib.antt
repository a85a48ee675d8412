pub mod Refusal
pub mod Number
pub mod Exact
pub mod OneOutcome
