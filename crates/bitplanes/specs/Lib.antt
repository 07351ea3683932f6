-- The modules of this crate's definitions and laws, in the order in which to read them.
pub mod Turned
pub mod Promise
pub mod RoundSteps
pub mod IndexLaws
