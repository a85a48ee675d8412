pub mod Network
pub mod Format
pub mod Checks
pub mod Describe
pub mod RoundTrip
pub mod Sound
pub mod Causes
