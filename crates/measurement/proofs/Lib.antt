-- The laws of this crate that its proofs and other crates cite, in the order in which to read them.
pub mod Cases
pub mod AccuracyLaws
pub mod CurveLaws
pub mod SearchLaws
pub mod MeasureLaws
pub mod MarkLaws
