pub mod Callers
pub mod Hosts
pub mod Tour
pub mod Typed
