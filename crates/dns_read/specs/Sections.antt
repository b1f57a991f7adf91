-- The sections of a message: how many entries each has, where it starts, and what reading it gives. RFC 1035 sections 4.1 and 4.1.1.
--
-- `b` is the octets of the message.
use Rattle.std.specs.Prelude.{ℕ, ◌⊎◌, List, Option, Some, None, Result}
use Rattle.std.specs.Int.{w16}
use Rattle.dns_name.specs.Names.{Fault}
use Rattle.dns_name.specs.Parsers.{number_at}
use Rattle.dns_code.specs.HeaderSection.{header_size}
use Rattle.dns_item.specs.Questions.{SkipsQuestion, ReadsQuestion, QuestionFaultAt, QuestionSkipFaultAt, QuestionItem}
use Rattle.dns_item.specs.Items.{SkipsRecord, ReadsRecord, RecordEntry, RecordFaultAt, RecordSkipFaultAt}
use Rattle.dns_read.specs.Reading.{Skipped, StopsSkipping, Reading}
use Rattle.dns_read.specs.declared.section.Section.{Section}
use Rattle.dns_read.specs.declared.section.Section.TheVariants.{Answer, Authority, Additional}

-- QDCOUNT, ANCOUNT, NSCOUNT and ARCOUNT of the header section
abbrev pub question_count : List ℕ → ℕ
question_count b = number_at w16 b 4

abbrev pub answer_count : List ℕ → ℕ
answer_count b = number_at w16 b 6

abbrev pub authority_count : List ℕ → ℕ
authority_count b = number_at w16 b 8

abbrev pub additional_count : List ℕ → ℕ
additional_count b = number_at w16 b 10

-- a section of records starts at p: all entries of the sections before it can be skipped, and p follows them
abbrev pub AnswersStart : List ℕ → ℕ → Type 0
AnswersStart b p = Skipped (SkipsQuestion b) (question_count b) header_size p

abbrev pub AuthoritiesStart : List ℕ → ℕ → Type 0
AuthoritiesStart b p = (before : ℕ) × AnswersStart b before × Skipped (SkipsRecord b) (answer_count b) before p

abbrev pub AdditionalsStart : List ℕ → ℕ → Type 0
AdditionalsStart b p = (before : ℕ) × AuthoritiesStart b before × Skipped (SkipsRecord b) (authority_count b) before p

-- a section of records has no start: an entry of a section before it can't be skipped, and this is the fault of the first such entry
abbrev pub AnswersFault : List ℕ → Fault → Type 0
AnswersFault b f = StopsSkipping (SkipsQuestion b) (QuestionSkipFaultAt b) (question_count b) header_size f

abbrev pub AuthoritiesFault : List ℕ → Fault → Type 0
AuthoritiesFault b f =
    AnswersFault b f ⊎ ((before : ℕ) × AnswersStart b before × StopsSkipping (SkipsRecord b) (RecordSkipFaultAt b) (answer_count b) before f)

abbrev pub AdditionalsFault : List ℕ → Fault → Type 0
AdditionalsFault b f =
    AuthoritiesFault b f ⊎ ((before : ℕ) × AuthoritiesStart b before × StopsSkipping (SkipsRecord b) (RecordSkipFaultAt b) (authority_count b) before f)

-- for a section of records: its count, the offset where it starts, the fault if it has no start, and the section after it
abbrev pub record_count : Section → List ℕ → ℕ
record_count Answer b = answer_count b
record_count Authority b = authority_count b
record_count Additional b = additional_count b

abbrev pub StartsAt : Section → List ℕ → ℕ → Type 0
StartsAt Answer b p = AnswersStart b p
StartsAt Authority b p = AuthoritiesStart b p
StartsAt Additional b p = AdditionalsStart b p

abbrev pub StartFault : Section → List ℕ → Fault → Type 0
StartFault Answer b f = AnswersFault b f
StartFault Authority b f = AuthoritiesFault b f
StartFault Additional b f = AdditionalsFault b f

abbrev pub section_after : Section → Option Section
section_after Answer = Some Authority
section_after Authority = Some Additional
section_after Additional = None

-- the reading of at most n questions from offset p
abbrev pub ReadingQuestions : List ℕ → ℕ → ℕ → List (Result QuestionItem Fault) → Type 0
ReadingQuestions b n p xs = Reading (ReadsQuestion b) (QuestionFaultAt b) n p xs

-- the reading of at most n records from offset p
abbrev pub ReadingRecords : List ℕ → ℕ → ℕ → List (Result RecordEntry Fault) → Type 0
ReadingRecords b n p xs = Reading (ReadsRecord b) (RecordFaultAt b) n p xs
