-- The modules of this crate's definitions and laws, in the order in which to read them.
pub mod Session
pub mod Demand3
pub mod SingleSteps
pub mod WrittenOut
pub mod Cases
