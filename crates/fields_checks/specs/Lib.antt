pub mod Checks
pub mod Digests
pub mod Services
