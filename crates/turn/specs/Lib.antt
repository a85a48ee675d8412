pub mod Send
pub mod Turn
pub mod Fits
