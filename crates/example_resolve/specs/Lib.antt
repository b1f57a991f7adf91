pub mod Lookups
pub mod Queries
