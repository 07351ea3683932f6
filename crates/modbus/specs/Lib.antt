-- The modules of this crate's definitions and laws, in the order in which to read them.
pub mod Crc
pub mod Words
pub mod Request
pub mod Replies
pub mod XorLaws
