-- The modules of this crate's definitions and laws, in the order in which to read them.
pub mod Orders
pub mod LogWords
pub mod LogWordLaws
pub mod Sheet
pub mod SheetLaws
