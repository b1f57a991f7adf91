-- Lemmas that other crates cite: a changed statement changes for them too.
pub mod EntryLemmas
pub mod ItemLemmas
pub mod TypedLemmas
pub mod FieldsAfterNames
pub mod QuestionEntryLemmas
pub mod QuestionItemLemmas
pub mod OneResult
