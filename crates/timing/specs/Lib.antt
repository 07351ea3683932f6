-- The modules of this crate's definitions, in the order in which to read them.
pub mod Sums
