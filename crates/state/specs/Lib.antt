-- The modules of this crate's definitions and laws, in the order in which to read them.
pub mod Extremes
pub mod Refusal
pub mod State
pub mod Valid
