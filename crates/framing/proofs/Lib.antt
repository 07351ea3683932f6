-- The laws of this crate that its proofs and other crates cite, in the order in which to read them.
pub mod EndLaws
pub mod PieceLaws
pub mod CollectorLaws
pub mod HeardLaws
pub mod PassedLaws
