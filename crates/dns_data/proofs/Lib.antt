pub mod theory
mod ComposedParts
mod WrittenLengths
mod SoaNumbers
mod PrintedData
