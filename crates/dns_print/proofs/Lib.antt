pub mod theory
mod Values
