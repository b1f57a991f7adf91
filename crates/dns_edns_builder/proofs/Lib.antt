pub mod theory
mod OptionListLemmas
