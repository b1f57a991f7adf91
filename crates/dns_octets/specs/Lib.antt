pub mod Octets
pub mod Converts
pub mod Causes
