-- The modules of this crate's definitions and laws, in the order in which to read them.
pub mod Input
pub mod Progress
pub mod Pieces
pub mod Output
pub mod InputLaws
pub mod ProgressLaws
