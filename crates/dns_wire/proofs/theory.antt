-- Lemmas that other crates cite, so a change here affects them too.
pub mod NameSizes
pub mod CompressionTables
pub mod CompressedNames
pub mod EncodedNames
pub mod EncoderLaws
pub mod Stability
pub mod TargetTheorems
pub mod ShortestEncoders
pub mod Choices
