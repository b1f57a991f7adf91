pub mod theory
mod Escapes
