-- The laws of this crate that its proofs and other crates cite, in the order in which to read them.
pub mod CommandLaws
mod ErrorLaws
