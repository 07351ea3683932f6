-- The modules of this crate's definitions and laws, in the order in which to read them.
pub mod Condition
pub mod Switching
pub mod Outputs
pub mod Travel
pub mod Each
pub mod EachLaws
pub mod MarkSteps
