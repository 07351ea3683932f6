-- The modules of this crate's definitions and laws, in the order in which to read them.
pub mod Table
pub mod Commands
pub mod Collector
pub mod Talk
pub mod Messages
pub mod TableLaws
