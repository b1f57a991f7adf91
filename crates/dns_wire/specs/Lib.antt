pub mod Encoders
pub mod Parts
pub mod Targets
pub mod Choice
pub mod TargetLaws
pub mod Compression
pub mod Stream
