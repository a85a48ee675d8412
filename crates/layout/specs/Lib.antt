pub mod Layout
pub mod RoundTrip
