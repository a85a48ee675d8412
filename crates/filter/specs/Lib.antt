pub mod Filter
pub mod Triple
