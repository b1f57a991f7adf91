-- Lemmas that other crates cite, so a change here affects them too.
pub mod OneParameters
pub mod ParameterTexts
pub mod Shrinking
pub mod SkippedValues
