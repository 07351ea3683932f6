-- The modules of this crate's definitions and laws, in the order in which to read them.
pub mod Marks
pub mod Put
pub mod PutLaws
pub mod Words
pub mod WordSteps
pub mod WordLaws
pub mod Plain
pub mod PlainLaws
pub mod Hex
pub mod HexList
