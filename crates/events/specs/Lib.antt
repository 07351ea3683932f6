-- The modules of this crate's definitions and laws, in the order in which to read them.
pub mod Words
pub mod Log
pub mod Bytes
pub mod Written
