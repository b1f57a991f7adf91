-- A question as a value, and its encoding. RFC 1035 section 4.1.2.
use Rattle.std.specs.Prelude.{ℕ, ◌<◌, ◌^◌, List, ◌++◌, ◌≡◌, ◌+◌, length}
use Rattle.std.specs.Int.{to_be_bytes, w16}
use Rattle.dns_name.specs.Names.{Labels, IsName, Fault, NameAt, ReadsOrFaults, EndsOrFaults}
use Rattle.dns_name.specs.Parsers.{number_at}
use Rattle.dns_wire.specs.Encoders.{Rule, Encoder, encode_octets, both, encode_name, IsGrowing}
use Rattle.dns_wire.specs.Targets.{Written, IsTarget, append}
use Rattle.dns_item.specs.AfterNames.{SkipsFields, FieldsFaultAt, FieldsSkipFaultAt}

-- a question: name, type and class
pub record QuestionItem : Type 0 where
  pub name : Labels
  pub rtype : ℕ
  pub class : ℕ

-- a question that a message can hold: the numbers fit their fields
pub record IsQuestion (x : QuestionItem) : Type 0 where
  pub name : IsName x.name
  pub rtype : x.rtype < 2 ^ 16
  pub class : x.class < 2 ^ 16

-- type and class, each in two octets, big-endian
abbrev pub question_fields : QuestionItem → List ℕ
question_fields x = to_be_bytes w16 x.rtype ++ to_be_bytes w16 x.class

-- the encoding of a question: its name, and its fields
unfoldable pub encode_question : Rule → QuestionItem → Encoder
encode_question rule x = both (encode_name rule x.name) (encode_octets (question_fields x))

-- Questions in the octets of a message. RFC 1035 section 4.1.2.

-- a question takes the octets from p to q: those of its encoded name, and four more
abbrev pub SkipsQuestion : List ℕ → ℕ → ℕ → Type 0
SkipsQuestion b = SkipsFields b (λ r. 4)

-- the question `x` is encoded from p to q
pub record ReadsQuestion (b : List ℕ) (p q : ℕ) (x : QuestionItem) : Type 0 where
  pub skips : SkipsQuestion b p q
  pub name : NameAt b p x.name
  pub rtype : x.rtype ≡ number_at w16 b skips.name_end
  pub class : x.class ≡ number_at w16 b (skips.name_end + 2)

-- Why no question can be read at an offset: its name has a fault, or the four octets after the name aren't all there.
abbrev pub QuestionFaultAt : List ℕ → ℕ → Fault → Type 0
QuestionFaultAt b = FieldsFaultAt b (λ r. length b < r + 4)

-- why no question can be skipped at an offset
abbrev pub QuestionSkipFaultAt : List ℕ → ℕ → Fault → Type 0
QuestionSkipFaultAt b = FieldsSkipFaultAt b (λ r. length b < r + 4)

-- Theorems over questions in all octets, and over all questions that are written. RFC 1035 section 4.1.2.

-- at each offset either exactly one question can be read, or there is exactly one fault
abbrev pub QuestionOrFault : Type 0
QuestionOrFault = (b : List ℕ) → ReadsOrFaults (ReadsQuestion b) (QuestionFaultAt b)

-- at each offset either a question can be skipped to exactly one end, or there is exactly one fault
abbrev pub QuestionEndOrFault : Type 0
QuestionEndOrFault = (b : List ℕ) → EndsOrFaults (SkipsQuestion b) (QuestionSkipFaultAt b)

-- a question that can be read can be skipped, with the same end; one that can't be skipped can't be read
pub record QuestionSkipAgrees : Type 0 where
  pub ends_alike : (b : List ℕ) (p q : ℕ) (x : QuestionItem) → ReadsQuestion b p q x → SkipsQuestion b p q
  pub fails_alike : (b : List ℕ) (p q : ℕ) (x : QuestionItem) (f : Fault) → QuestionSkipFaultAt b p f → ReadsQuestion b p q x → ⊥

-- writing a question adds only suffixes of its own name to the compression table, under each rule
abbrev pub QuestionsGrow : Type 0
QuestionsGrow = (rule : Rule) (x : QuestionItem) → IsGrowing (encode_question rule x)

-- a question that is written reads back at its offset, and every suffix in the table is still at its offset
abbrev pub QuestionsReadBack : Type 0
QuestionsReadBack = (rule : Rule) (t : Written) (x : QuestionItem) → IsQuestion x → IsTarget t
    → let u = append (encode_question rule x) t in ReadsQuestion u.octets (length t.octets) (length u.octets) x × IsTarget u
