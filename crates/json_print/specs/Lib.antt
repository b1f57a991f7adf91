pub mod Laws
pub mod Texts
pub mod Values
