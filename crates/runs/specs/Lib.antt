-- The modules of this crate's definitions and laws, in the order in which to read them.
pub mod Run
pub mod Book
pub mod Demand3
pub mod KeptLaws
pub mod Words
pub mod Ran
pub mod Places
