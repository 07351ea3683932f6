-- The modules that this crate's proofs share.
pub mod Mask
pub mod Cases
pub mod WordLaws
pub mod LogLaws
pub mod HalfLaws
pub mod WrittenLaws
pub mod CarriedLaws
pub mod ByteLaws
pub mod WordBytesLaws
