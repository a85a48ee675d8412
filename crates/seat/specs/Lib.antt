pub mod Seat
pub mod Words
pub mod Frames
