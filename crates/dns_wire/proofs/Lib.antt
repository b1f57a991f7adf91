pub mod theory
mod SharedSuffixes
mod Streams
