pub mod theory
mod SectionLemmas
mod FlagsLemmas
mod TokensLemmas
mod OctetsLemmas
mod FlagsEquality
