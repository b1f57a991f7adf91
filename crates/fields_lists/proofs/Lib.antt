pub mod theory
mod BlockLemmas
mod ItemSteps
mod MarkLemmas
mod PrefixFieldLaws
mod PrefixLaws
mod PrefixLemmas
mod SmallMapLemmas
mod SmallMarks
mod TypeMapLemmas
mod TypeMapsExist
mod TypeSteps
mod TypeTexts
