pub mod Cursors
pub mod Entries
pub mod Header
pub mod Laws
pub mod Messages
pub mod Records
