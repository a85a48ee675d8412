pub mod Bench
pub mod Events
pub mod Shape
pub mod Kept
