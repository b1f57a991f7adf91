pub mod Transfers
pub mod Frames
