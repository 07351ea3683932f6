-- The modules of this crate's definitions and laws, in the order in which to read them.
pub mod Upward
pub mod Halves
pub mod Cases
