pub mod Hex
pub mod Moved
