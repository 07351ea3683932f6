-- The modules of this crate's definitions and laws, in the order in which to read them.
pub mod Settings
pub mod SettingsLaws
pub mod InputLaws
pub mod AlikeLaws
