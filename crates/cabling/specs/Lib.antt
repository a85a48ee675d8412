pub mod Cabling
