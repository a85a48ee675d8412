pub mod Laws
mod Count
mod Delivery
mod Records
mod Following
mod Example
