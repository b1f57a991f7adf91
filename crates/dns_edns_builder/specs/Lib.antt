pub mod OptionLists
pub mod Gathered
pub mod Additions
