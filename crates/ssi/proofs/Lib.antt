-- The modules that this crate's proofs share.
pub mod Arms
pub mod ReadBackLaws
pub mod BuildLaws
pub mod SoundLaws
pub mod PartLaws
pub mod GrayLaws
pub mod DoublingLaws
