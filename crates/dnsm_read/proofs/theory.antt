pub mod AddressLemmas
pub mod DataLemmas
pub mod DataNameLemmas
pub mod OptLemmas
pub mod UncompressedLemmas
