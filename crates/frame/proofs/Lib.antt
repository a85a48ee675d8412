pub mod Laws
mod Bytes
pub mod RoundTrip
pub mod Told
pub mod Doors
pub mod Causes
