-- Crates above cite these lemmas, so a change here affects them.
pub mod SectionStartLemmas
pub mod QuestionsFromLemmas
pub mod SectionLemmas
pub mod RecordsFromLemmas
pub mod ReadingLemmas
