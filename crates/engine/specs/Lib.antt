pub mod Frames
pub mod Head
