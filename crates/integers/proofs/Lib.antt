-- The laws of this crate that its proofs and other crates cite, in the order in which to read them.
pub mod RoundLaws
pub mod HalfLaws
pub mod OrderLaws
pub mod FloorLaws
pub mod ModLaws
pub mod UpwardLaws
pub mod TwosComplementLaws
