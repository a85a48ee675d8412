pub mod Mesh
pub mod Delivery
pub mod Records
