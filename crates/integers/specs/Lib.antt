-- The modules of this crate's definitions and laws, in the order in which to read them.
pub mod Limit
pub mod Round
pub mod Fraction
pub mod TwosComplement
pub mod Int
pub mod Choice
pub mod Worked
pub mod ChoiceLaws
pub mod TestLaws
pub mod IntLaws
pub mod RingLaws
pub mod Upward
