-- Lemmas that other crates cite, so a change here affects them too.
pub mod NamedFields
pub mod NumberOctets
pub mod PartOctets
pub mod UncompressedOctets
