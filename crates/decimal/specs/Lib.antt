-- The modules of this crate's definitions and laws, in the order in which to read them.
pub mod Decimal
pub mod Cases
pub mod DecimalLaws
pub mod DigitLaws
pub mod ByteSteps
pub mod ByteLaws
pub mod ParseLaws
