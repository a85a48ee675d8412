pub mod Words
pub mod Demand
