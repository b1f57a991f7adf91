pub mod Digits
pub mod KnownData
pub mod Show
pub mod Walk
pub mod ZoneLines
