pub mod theory
mod TableLemmas
mod TextLemmas
mod RegistryLemmas
