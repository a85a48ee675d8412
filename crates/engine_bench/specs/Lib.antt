pub mod Bench
pub mod Networks
