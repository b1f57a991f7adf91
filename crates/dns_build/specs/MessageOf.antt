-- The octets of a message with a state's header and items: what they are, and what reading them gives. RFC 1035 section 4.1.
use Rattle.std.specs.Prelude.{◌≡◌, ℕ, List, [], ◌∷◌, length, map, Ok, ◌+◌, ◌++◌, ◌≤◌}
use Rattle.std.specs.FinMap.{len}
use Rattle.dns_name.specs.Names.{pointer_end}
use Rattle.dns_wire.specs.Parts.{Part, Octets, CompressibleName, PartsInPointerRange, PartsPointed}
use Rattle.dns_wire.specs.Compression.{IsShortest, SharesAll}
use Rattle.dns_wire.specs.Encoders.{Rule, IsAtOrAfter}
use Rattle.dns_wire.specs.Targets.{IsTarget}
use Rattle.dns_code.specs.Header.{fields_in}
use Rattle.dns_code.specs.HeaderSection.{header_size}
use Rattle.dns_item.specs.Questions.{QuestionItem, question_fields}
use Rattle.dns_item.specs.Items.{SkipsRecord, RecordEntry, ReportsRecord, RecordItem, record_fields}
use Rattle.dns_read.specs.QuestionsFrom.{questions_from}
use Rattle.dns_read.specs.Reading.{Skipped}
use Rattle.dns_read.specs.Sections.{question_count, answer_count, authority_count, additional_count, AnswersStart, AuthoritiesStart, AdditionalsStart, ReadingRecords}
use Rattle.dns_build.specs.State.{State, encode, IsState}

-- Reading the octets of a state gives back the state. RFC 1035 section 4.1.

-- the entries read are the records, one for one, and the parts of each record fill its RDATA
abbrev pub AllReported : List ℕ → List RecordEntry → List RecordItem → Type 0
AllReported b [] [] = Unit {0}
AllReported b [] (x ∷ xs) = ⊥
AllReported b (e ∷ es) [] = ⊥
AllReported b (e ∷ es) (x ∷ xs) = ReportsRecord b e x × AllReported b es xs

-- reading n records from offset p yields exactly the records `xs`, without a fault
pub record GivesRecords (b : List ℕ) (n p : ℕ) (xs : List RecordItem) : Type 0 where
  pub entries : List RecordEntry
  pub reading : ReadingRecords b n p (map Ok entries)
  pub report : AllReported b entries xs

-- The header section has the state's header and the lengths of its lists as counts. Each section has a start, and reading it yields its list without a fault.
-- The last section ends where the octets end.
pub record ReadsBack (s : State) (b : List ℕ) : Type 0 where
  pub header : fields_in b ≡ s.header
  pub questions_counted : question_count b ≡ length s.questions
  pub answers_counted : answer_count b ≡ length s.answers
  pub authorities_counted : authority_count b ≡ length s.authorities
  pub additionals_counted : additional_count b ≡ length s.additionals
  pub questions : questions_from b (question_count b) header_size ≡ map Ok s.questions
  pub answers_start : ℕ
  pub answers_at : AnswersStart b answers_start
  pub answers : GivesRecords b (answer_count b) answers_start s.answers
  pub authorities_start : ℕ
  pub authorities_at : AuthoritiesStart b authorities_start
  pub authorities : GivesRecords b (authority_count b) authorities_start s.authorities
  pub additionals_start : ℕ
  pub additionals_at : AdditionalsStart b additionals_start
  pub additionals : GivesRecords b (additional_count b) additionals_start s.additionals
  pub ends : Skipped (SkipsRecord b) (additional_count b) additionals_start (length b)

-- The items of a state as parts, for where their names are encoded and how they can be compressed. RFC 1035 sections 4.1.2 to 4.1.4.

-- a question: its name, then its type and class
abbrev pub question_parts : QuestionItem → List Part
question_parts x = CompressibleName x.name ∷ Octets (question_fields x) ∷ []

-- a record: its owner, then its type, class and TTL, two octets for RDLENGTH, whatever they are, and its RDATA
abbrev pub record_parts : RecordItem → List Part
record_parts x = CompressibleName x.owner ∷ Octets (record_fields x) ∷ Octets (0 ∷ 0 ∷ []) ∷ x.parts

-- the parts of all items of a list, in order
abbrev pub all_parts : {X : Type 0} → (X → List Part) → List X → List Part
all_parts parts [] = []
all_parts parts (x ∷ xs) = parts x ++ all_parts parts xs

-- the parts of all items of a state, in order
abbrev pub parts_of : State → List Part
parts_of s =
    all_parts question_parts s.questions ++ (all_parts record_parts s.answers ++ (all_parts record_parts s.authorities ++ all_parts record_parts s.additionals))

-- In the octets of a message with these items, each pointer of a name leads to an earlier label below offset 16,384. Octets in RDATA aren't names, and a name that is never compressed has no pointer.
abbrev pub PointsToLabels : State → List ℕ → Type 0
PointsToLabels s b = PartsPointed b (length b) header_size (parts_of s)

-- in these octets, each label of a name that may be compressed begins below offset 16,384
abbrev pub HasLabelsInPointerRange : State → List ℕ → Type 0
HasLabelsInPointerRange s b = PartsInPointerRange b (length b) header_size (parts_of s)

-- these octets are as many as a header section and the items, in the shortest compression of their names
abbrev pub IsShortestOf : State → List ℕ → Type 0
IsShortestOf s b = (n : ℕ) × (length b ≡ header_size + n) × IsShortest (parts_of s) n

-- The octets are the encoding of the state and read back as it. Each pointer of a name leads to an earlier label below offset 16,384. No compression of the
-- names is shorter, while all labels of names that may be compressed begin below 16,384. This holds under the tree and the hash rule, and under the static rule
-- while the table has fewer than 24 suffixes.
pub record IsMessageOf (rule : Rule) (s : State) (b : List ℕ) : Type 0 where
  pub octets : b ≡ (encode rule s).octets
  pub reads_back : ReadsBack s b
  pub pointers : PointsToLabels s b
  pub shortest : SharesAll rule (len (encode rule s).table) → HasLabelsInPointerRange s b → IsShortestOf s b
  pub in_range : length b ≤ pointer_end → HasLabelsInPointerRange s b

-- Theorems over all states and rules. RFC 1035 section 4.1.

-- the encoding of a state reads back as the state
abbrev pub EncodingsReadBack : Type 0
EncodingsReadBack = (rule : Rule) (s : State) → IsState s → ReadsBack s (encode rule s).octets

-- each suffix in its compression table is encoded at its offset, after the header section
abbrev pub EncodingsAreTargets : Type 0
EncodingsAreTargets = (rule : Rule) (s : State) → IsState s → IsTarget (encode rule s) × IsAtOrAfter (encode rule s).table header_size

-- the encoding of a state is the octets of a message with the state's header and items
abbrev pub EncodingsAreMessages : Type 0
EncodingsAreMessages = (rule : Rule) (s : State) → IsState s → IsMessageOf rule s (encode rule s).octets
