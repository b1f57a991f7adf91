-- What iterating over a message yields: the entries of its four sections in order, up to the first error. RFC 1035 section 4.1.
--
-- `b` are the octets of the message.
use Rattle.std.specs.Prelude.{ℕ, zero, suc, List, [], ◌∷◌, Option, Result, Ok, Err}
use Rattle.std.specs.Option.{option_map_or}
use Rattle.dns_name.specs.Names.{Fault}
use Rattle.dns_item.specs.Questions.{QuestionItem}
use Rattle.dns_item.specs.Items.{RecordEntry}
use Rattle.dns_item.specs.ParsedRecord.{EncodedRecord}
use Rattle.dns_read.specs.QuestionsFrom.{questions_from}
use Rattle.dns_read.specs.RecordsFrom.{records_in}
use Rattle.dns_read.specs.Sections.{question_count, answer_count, authority_count, additional_count, record_count}
use Rattle.dns_read.specs.declared.section.Section.{Section}
use Rattle.dns_read.specs.declared.section.Section.TheVariants.{Answer, Authority, Additional}
use Rattle.dns_read.specs.StartOrFault.{questions_skip_or_stop}
use Rattle.dns_read.specs.MessageIter.{records_end}
use Rattle.dns_read.specs.Searches.{questions_of}
use Rattle.dns_read.specs.SectionStarts.{found, records_of}

-- an entry of a message: a question, or a record of a section
pub data Entry : Type 0 where
  Asked : QuestionItem → Entry
  Stated : Section → RecordEntry → Entry

-- what an iteration yields: an entry, or an error
abbrev pub Given : Type 0
Given = Result Entry Fault

-- the questions of a reading, followed by `after`; an error ends the list
abbrev pub asked_then : List (Result QuestionItem Fault) → List Given → List Given
asked_then [] after = after
asked_then (Ok x ∷ xs) after = Ok (Asked x) ∷ asked_then xs after
asked_then (Err f ∷ xs) after = Err f ∷ []

-- the records of a section, followed by `after`; an error ends the list
abbrev pub stated_then : Section → List (Result EncodedRecord Fault) → List Given → List Given
stated_then which [] after = after
stated_then which (Ok x ∷ xs) after = Ok (Stated which x.entry) ∷ stated_then which xs after
stated_then which (Err f ∷ xs) after = Err f ∷ []

-- what iterating over a message yields: its four sections in order; the first error ends it
abbrev pub walk_of : List ℕ → List Given
walk_of b =
    asked_then (questions_of b)
    (stated_then Answer (records_of Answer b) (stated_then Authority (records_of Authority b) (stated_then Additional (records_of Additional b) [])))

-- What is still to come, by the section, the entries left in it, and the offset.

-- at most n records of a section from offset p on, followed by what `after` yields where the last of them ends
abbrev pub records_then : Section → List ℕ → ℕ → (ℕ → List Given) → ℕ → List Given
records_then which b n after p = let xs = records_in b n p in stated_then which xs (after (records_end p xs))

-- what the sections after a section yield, if the next one begins at an offset
abbrev pub after_section : Section → List ℕ → ℕ → List Given
after_section Answer b = records_then Authority b (authority_count b) (records_then Additional b (additional_count b) (λ _. []))
after_section Authority b = records_then Additional b (additional_count b) (λ _. [])
after_section Additional b = λ _. []

-- at most n records of a section from p on, and the sections after it
abbrev pub records_left : Section → List ℕ → ℕ → ℕ → List Given
records_left which b n = records_then which b n (after_section which b)

-- the offset after n questions, if they can be skipped
unfoldable pub questions_end : List ℕ → ℕ → ℕ → Option ℕ
questions_end b n p = found ((questions_skip_or_stop b n).some p)

-- at most n questions from p on, and the sections of records
abbrev pub questions_left : List ℕ → ℕ → ℕ → List Given
questions_left b n p = asked_then (questions_from b n p) (option_map_or (records_left Answer b (answer_count b)) (questions_end b n p) [])

-- the section of records with this number, 1 to 3
abbrev pub section_at : ℕ → Section
section_at zero = Answer
section_at (suc zero) = Answer
section_at (suc (suc zero)) = Authority
section_at (suc (suc (suc n))) = Additional

-- the count of the section with this number; 0 is the question section
abbrev pub count_at : List ℕ → ℕ → ℕ
count_at b zero = question_count b
count_at b (suc n) = record_count (section_at (suc n)) b

-- what is still to come, by the number of the section
unfoldable pub left_at : List ℕ → ℕ → ℕ → ℕ → List Given
left_at b zero n p = questions_left b n p
left_at b (suc s) n p = records_left (section_at (suc s)) b n p
