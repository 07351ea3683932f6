-- The modules of this crate's definitions and laws, in the order in which to read them.
pub mod Sound
pub mod Telegram
pub mod Builder
pub mod FieldLaws
