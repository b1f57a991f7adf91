pub mod Codes
pub mod Statuses
pub mod CallerBuffers
pub mod Sinks
