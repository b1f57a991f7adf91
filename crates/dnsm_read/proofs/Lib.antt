pub mod theory
mod CachedOwnerLemmas
mod DataFieldLemmas
mod DataTextLemmas
mod FieldOffsetLemmas
mod FieldValueLemmas
mod FieldWalks
mod NameOffsetLemmas
mod NameWalks
mod OctetWalks
mod OptSearchLemmas
mod PlainNameLemmas
mod SameOctets
mod WalkLemmas
