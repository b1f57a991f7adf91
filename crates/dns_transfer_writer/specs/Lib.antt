pub mod Sequences
pub mod Queue
pub mod Filling
pub mod Messages
pub mod Longest
pub mod Writer
pub mod Reading
