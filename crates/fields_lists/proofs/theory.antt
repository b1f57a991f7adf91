-- Lemmas that other crates cite, so a change here affects them too.
pub mod BlockLemmas
pub mod ItemKinds
pub mod ItemLemmas
pub mod ListTexts
pub mod OneMaps
pub mod PrefixLemmas
pub mod PrefixTexts
pub mod Shrinking
pub mod SkippedItems
pub mod SpacedIfAll
pub mod TypeMapLaws
pub mod Words
pub mod WordSteps
