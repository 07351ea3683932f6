-- The laws of this crate that its proofs and other crates cite, in the order in which to read them.
pub mod Cases
pub mod PlaneLaws
pub mod GroupLaws
pub mod MaskLaws
pub mod RoundLaws
pub mod LoopLaws
pub mod TurnedLaws
