-- The modules that this crate's proofs share.
pub mod FloatCast
pub mod Cases
pub mod CodeLaws
pub mod DriveLaws
