-- The laws of this crate that its proofs and other crates cite, in the order in which to read them.
pub mod RunLaws
pub mod BookLaws
pub mod ChangesLaws
pub mod Demand3Laws
pub mod WordLaws
pub mod RanLaws
