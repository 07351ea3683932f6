-- The laws of this crate that its proofs and other crates cite, in the order in which to read them.
pub mod SingleStepsLaws
pub mod Demand3Laws
pub mod WrittenOutLaws
