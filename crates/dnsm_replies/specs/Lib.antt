pub mod Faults
pub mod Ages
pub mod Sayings
pub mod Replies
