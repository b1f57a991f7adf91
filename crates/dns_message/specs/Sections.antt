-- Sections of a message: where they start, and what reading one yields.
-- Each cursor and iterator has a module of its name, as `RecordSection`: what it is at, has left and yields.
pub use Rattle.dns_read.specs.QuestionSection
pub use Rattle.dns_read.specs.RecordSection
pub use Rattle.dns_read.specs.RecordIter
pub use Rattle.dns_read.specs.AnyRecordIter
-- what is read: entries in order, and the first error
pub use Rattle.dns_read.specs.Reading.{Reading, Skipped, StopsSkipping}
pub use Rattle.dns_read.specs.Reading.Reading.{none, entry, stop}
pub use Rattle.dns_read.specs.Reading.Skipped.{none, more}
pub use Rattle.dns_read.specs.Reading.StopsSkipping.{here, after}
unfoldable pub use Rattle.dns_read.specs.QuestionsFrom.{questions_from}
unfoldable pub use Rattle.dns_read.specs.RecordsFrom.{records_from, records_in}
pub use Rattle.dns_read.specs.RecordsFrom.{in_octets}
pub use Rattle.dns_read.specs.Limited.{parsed_item, limited, limited_by, in_class_in, is_in_class_in}
pub use Rattle.dns_read.specs.SameQuestions.{same_question, same_item, same_readings}
-- counts and starts
pub use Rattle.dns_read.specs.Sections.{question_count, answer_count, authority_count, additional_count, record_count, AnswersStart, AuthoritiesStart}
pub use Rattle.dns_read.specs.Sections.{AdditionalsStart, AnswersFault, AuthoritiesFault, AdditionalsFault, StartsAt, StartFault}
pub use Rattle.dns_read.specs.SectionOrder.{sections_before, section_order}
-- the statements of the theorems on sections: each has one reading, and one start or one error
pub use Rattle.dns_read.specs.Readings.{OneReading, OneReadingOfQuestions, OneReadingOfRecords, AreReadings, ReadingsEnd, ReadingsOfQuestionsEnd}
pub use Rattle.dns_read.specs.Readings.{ReadingsOfRecordsEnd, QuestionsSkipOrStop, RecordsSkipOrStop, OneStart, StartsOrFaults, StartOrFault}
pub use Rattle.dns_read.specs.QuestionsFrom.{QuestionsFromAreRead}
pub use Rattle.dns_read.specs.RecordsFrom.{RecordsFromAreRead}
