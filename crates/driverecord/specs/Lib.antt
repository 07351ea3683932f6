-- The modules of this crate's definitions and laws, in the order in which to read them.
pub mod DriveRecord
pub mod Numbers
pub mod Least
pub mod Codes
pub mod LeastLaws
