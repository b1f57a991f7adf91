-- A change of the TTLs of a message, and the least of them. RFC 1035 sections 4.1 and 4.1.3.
use Rattle.std.specs.Prelude.{◌≡◌, ℕ, ◌+◌, ◌⊎◌, List, Option, None, Some, [], ◌∷◌, min, map}
use Rattle.std.specs.Int.{w16, w32}
use Rattle.dns_name.specs.Parsers.{number_at}
use Rattle.dns_code.specs.HeaderSection.{header_size}
use Rattle.dns_item.specs.Questions.{SkipsQuestion}
use Rattle.dns_item.specs.Items.{SkipsRecord, RecordSkipFaultAt}
use Rattle.dns_name.specs.Names.{Fault}
use Rattle.dns_read.specs.Reading.{Skipped, StopsSkipping}
use Rattle.dns_read.specs.Sections.{question_count, AnswersStart, AnswersFault}
use Rattle.dns_edit.specs.Ttls.{TtlFields, WritesTtls, record_total, with_ttls}
use Rattle.dns_edit.specs.Uses.{NameApart}
use Rattle.dns_edit.specs.Rdata.{DataApart}

-- A question is from p to q, and its name uses no octet of the fields.
abbrev pub QuestionApart : List ℕ → List ℕ → ℕ → ℕ → Type 0
QuestionApart b fields p q = SkipsQuestion b p q × NameApart b fields p

-- A record is from p to q, and its owner and the names in its RDATA use no octet of the fields.
abbrev pub RecordApart : List ℕ → List ℕ → ℕ → ℕ → Type 0
RecordApart b fields p q =
    (s : SkipsRecord b p q) × NameApart b fields p × DataApart b fields (number_at w16 b s.name_end) (s.name_end + 10) q

-- All questions and records can be skipped, `fields` are the TTL fields of the records, and no name of the message uses an octet of them.
pub record NamesAvoid (b fields : List ℕ) : Type 0 where
  pub start : ℕ
  pub end : ℕ
  pub questions : Skipped (QuestionApart b fields) (question_count b) header_size start
  pub records : Skipped (RecordApart b fields) (record_total b) start end
  pub ttls : TtlFields b (record_total b) start fields

-- Only the TTLs of the message `b` are changed, by a function, and no name of the message uses an octet of them.
abbrev pub ChangesTtls : (ℕ → ℕ) → List ℕ → List ℕ → Type 0
ChangesTtls change b c = (fields : List ℕ) × NamesAvoid b fields × (c ≡ with_ttls change fields b)

-- Only the TTLs of the message `b` are replaced, each by one that is given for it, and no name of the message uses an octet of them.
abbrev pub MapsTtls : (ℕ → ℕ → Type 0) → List ℕ → List ℕ → Type 0
MapsTtls Gives b c = (fields : List ℕ) × NamesAvoid b fields × WritesTtls Gives fields b c

-- The lesser of a number and another, if there is another.
abbrev pub least_with : ℕ → Option ℕ → Option ℕ
least_with n None = Some n
least_with n (Some m) = Some (min n m)

-- The least of some numbers, or None if there are none.
abbrev pub least : List ℕ → Option ℕ
least [] = None
least (n ∷ ns) = least_with n (least ns)

-- The least TTL of the message's records, or None if none has a TTL.
abbrev pub IsLeastTtl : List ℕ → Option ℕ → Type 0
IsLeastTtl b ttl = (start : ℕ) × (fields : List ℕ) × AnswersStart b start × TtlFields b (record_total b) start fields
    × (ttl ≡ least (map (number_at w32 b) fields))

-- The fault of the first question or record that can't be skipped.
abbrev pub RecordsFault : List ℕ → Fault → Type 0
RecordsFault b f =
    AnswersFault b f
    ⊎ ((start : ℕ) × AnswersStart b start × StopsSkipping (SkipsRecord b) (RecordSkipFaultAt b) (record_total b) start f)
