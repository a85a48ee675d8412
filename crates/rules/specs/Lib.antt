pub mod Mask
pub mod Rules
pub mod Verdict
pub mod Words
pub mod Effects
