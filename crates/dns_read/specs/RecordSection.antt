-- What a cursor over the records of a section has left, and how it moves, also to the next section. RFC 1035 sections 4.1 and 4.1.3.
use Rattle.std.specs.Iterator.{YieldsFirstBy}
use Rattle.std.specs.Prelude.{◌≡◌, ◌≢◌, ℕ, List, Option, Some, None, Result, Ok, Err}
use Rattle.dns_name.specs.Names.{Fault, fault_of}
use Rattle.dns_name.specs.Parsers.{seen, offset}
use Rattle.dns_octets.specs.declared.error.ParseError.{ParseError}
use Rattle.dns_item.specs.Questions.{SkipsQuestion, QuestionSkipFaultAt}
use Rattle.dns_item.specs.Items.{SkipsRecord, ReadsRecord, RecordFaultAt, RecordSkipFaultAt}
use Rattle.dns_item.specs.ParsedRecord.{octets_of as record_octets, parsed_entry, EncodedRecord, encoded_record}
use Rattle.dns_item.specs.declared.parsed_record.ParsedRecord.{ParsedRecord}
use Rattle.dns_read.specs.QuestionSection as questions
use Rattle.dns_read.specs.RecordsFrom.{records_in}
use Rattle.dns_read.specs.Sections.{record_count, StartsAt, section_after}
use Rattle.dns_read.specs.Skipping.{items_left, CountsDown, SkipsRest, StopsInRest}
use Rattle.dns_read.specs.declared.question_section.QuestionSection.{QuestionSection}
use Rattle.dns_read.specs.declared.record_section.RecordSection.{RecordSection}
use Rattle.dns_read.specs.declared.section.Section.{Section}
use Rattle.dns_read.specs.declared.section.Section.TheVariants.{Answer, Additional}

-- the octets of the message
abbrev pub octets_of : RecordSection → List ℕ
octets_of cursor = seen cursor.parser

-- the offset after the records that were yielded
abbrev pub position : RecordSection → ℕ
position cursor = offset cursor.parser

-- the section whose records these are
abbrev pub section_of : RecordSection → Section
section_of cursor = cursor.section

-- the count of records that may still come, or the error that was yielded
abbrev pub to_come : RecordSection → Result ℕ ParseError
to_come cursor = cursor.left

-- what is left to yield
abbrev pub records_left : RecordSection → List (Result EncodedRecord Fault)
records_left cursor = items_left (λ n. records_in (octets_of cursor) n (position cursor)) (to_come cursor)

-- what a result of the cursor says: a record with the octets that it is read from, or a fault
abbrev pub record_result : Result ParsedRecord ParseError → Result EncodedRecord Fault
record_result (Ok r) = Ok (encoded_record r)
record_result (Err e) = Err (fault_of e)

-- The cursor moves past a record that it yielded, which is read from the message's octets. It doesn't move at a record that can't be read, nor at the end.
abbrev pub MovesPastRecord : RecordSection → RecordSection → Option (Result ParsedRecord ParseError) → Type 0
MovesPastRecord old new (Some (Ok r)) = ReadsRecord (octets_of old) (position old) (position new) (parsed_entry r) × (record_octets r ≡ octets_of old)
MovesPastRecord old new (Some (Err e)) = RecordFaultAt (octets_of old) (position old) (fault_of e) × (position new ≡ position old)
MovesPastRecord old new None = position new ≡ position old

-- what a call of `next` returns, and the cursor after it
pub record GivesNext (old : RecordSection) (result : Option (Result ParsedRecord ParseError)) (new : RecordSection) : Type 0 where
  pub steps : YieldsFirstBy record_result records_left old result new
  pub moves : MovesPastRecord old new result
  pub counts : CountsDown (to_come old) (to_come new) result
  pub octets : octets_of new ≡ octets_of old
  pub section : section_of new ≡ section_of old

-- a cursor over section `which` of `b`, with all of its records to come
pub record IsFresh (which : Section) (b : List ℕ) (cursor : RecordSection) : Type 0 where
  pub octets : octets_of cursor ≡ b
  pub section : section_of cursor ≡ which
  pub count : to_come cursor ≡ Ok (record_count which b)
  pub records : records_left cursor ≡ records_in b (record_count which b) (position cursor)

-- such a cursor, at the offset where the section starts
pub record BeginsSection (which : Section) (b : List ℕ) (cursor : RecordSection) : Type 0 where
  pub fresh : IsFresh which b cursor
  pub start : StartsAt which b (position cursor)

-- the answer section begins after the questions that were left, which are skipped
pub record EntersAnswers (old : QuestionSection) (new : RecordSection) : Type 0 where
  pub fresh : IsFresh Answer (questions.octets_of old) new
  pub skips : SkipsRest (SkipsQuestion (questions.octets_of old)) (questions.to_come old) (questions.position old) (position new)

-- What moving on from the questions returns: the answer section, or why the remaining questions can't be skipped.
abbrev pub MovesToAnswers : QuestionSection → Result RecordSection ParseError → Type 0
MovesToAnswers old (Ok new) = EntersAnswers old new
MovesToAnswers old (Err e) = StopsInRest (SkipsQuestion (questions.octets_of old)) (QuestionSkipFaultAt (questions.octets_of old)) (questions.to_come old) (questions.position old) e

-- the next section begins after the records that were left, which are skipped
pub record EntersNext (old new : RecordSection) : Type 0 where
  pub next : section_after (section_of old) ≡ Some (section_of new)
  pub fresh : IsFresh (section_of new) (octets_of old) new
  pub skips : SkipsRest (SkipsRecord (octets_of old)) (to_come old) (position old) (position new)

-- What moving on from a section that isn't the last returns: the next section, or why the remaining records can't be skipped.
abbrev pub MovesToNext : RecordSection → Result RecordSection ParseError → Type 0
MovesToNext old (Ok new) = EntersNext old new
MovesToNext old (Err e) = StopsInRest (SkipsRecord (octets_of old)) (RecordSkipFaultAt (octets_of old)) (to_come old) (position old) e

-- What moving on from a section returns: `None` after the additional section, even after an error; else the next section, or why the remaining records can't be skipped.
abbrev pub MovesOn : RecordSection → Result (Option RecordSection) ParseError → Type 0
MovesOn old (Ok None) = section_of old ≡ Additional
MovesOn old (Ok (Some new)) = EntersNext old new
MovesOn old (Err e) = (section_of old ≢ Additional) × StopsInRest (SkipsRecord (octets_of old)) (RecordSkipFaultAt (octets_of old)) (to_come old) (position old) e
