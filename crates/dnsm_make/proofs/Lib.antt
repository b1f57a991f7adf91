pub mod theory
mod MadeLemmas
mod LastNameLemmas
