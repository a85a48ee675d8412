pub mod Switch
pub mod Step
pub mod Rows
pub mod Causes
