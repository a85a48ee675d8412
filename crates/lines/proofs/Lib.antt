pub mod Laws
mod Digits
mod Parts
mod ReadBack
pub mod Rows
