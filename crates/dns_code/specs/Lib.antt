pub mod HeaderSection
pub mod HeaderCounts
pub mod Flags
pub mod Header
pub mod Bits
pub mod Laws
pub mod Ttl
