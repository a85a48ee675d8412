pub mod Event
pub mod RoundTrip
pub mod Causes
