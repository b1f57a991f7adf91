pub mod theory
mod KindLemmas
