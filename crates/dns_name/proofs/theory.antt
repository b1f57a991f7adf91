-- Lemmas that other crates cite, so a change here affects them too.
pub mod HeadLemmas
pub mod CachedNames
pub mod NameOrFaultLaws
pub mod ExtentLaws
pub mod LabelsLemmas
pub mod UncompressedNames
pub mod Steps
pub mod NameLemmas
pub mod NameTextFaults
pub mod Names
pub mod ParentNames
