pub mod Counters
pub mod Event
pub mod History
pub mod Causes
