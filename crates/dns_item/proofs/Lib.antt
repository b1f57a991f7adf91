pub mod theory
mod RecordReadingLemmas
mod RecordLemmas
mod PrintedRecords
mod FlatRecords
mod QuestionLemmas
mod WordLemmas
mod QuestionTextLemmas
mod SpelledNumbers
