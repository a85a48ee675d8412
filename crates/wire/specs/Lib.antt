pub mod Wire
pub mod Address
pub mod Below
