pub mod Plain
pub mod PlainEntries
pub mod PlainItems
pub mod PlainNames
