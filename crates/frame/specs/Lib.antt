pub mod Header
pub mod Frame
pub mod RoundTrip
pub mod Causes
