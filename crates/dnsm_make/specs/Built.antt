-- What `dnsm_build` writes for the items that C passes, and why it fails. RFC 1035 section 4.1.
use Rattle.std.specs.Prelude.{◌≡◌, ◌+◌, ◌<◌, ◌≤◌, ◌⊎◌, ◌++◌, ℕ, Bool, List, [], ◌∷◌, length, Option, Some, None, Result, Err}
use Rattle.std.specs.Int.{to_be_bytes, w16}
use Rattle.std.specs.List.{All, filter_map}
use Rattle.dns_octets.specs.declared.error.AppendError.{AppendError}
use Rattle.dns_name.specs.Names.{Fault, Labels}
use Rattle.dns_name.specs.NameTexts.{SpellsName}
use Rattle.dns_wire.specs.Parts.{Part}
use Rattle.dns_wire.specs.Encoders.{Rule}
use Rattle.dns_wire.specs.Targets.{AppendReturns}
use Rattle.dns_code.specs.Header.{HeaderFields, fields_in}
use Rattle.dns_code.specs.HeaderSection.{header_size}
use Rattle.dns_item.specs.Questions.{QuestionItem}
use Rattle.fields_table.specs.LayoutTypes.{layout_type}
use Rattle.fields_table.specs.UncompressedData.{IsUncompressedData, UncompressedDataFault}
use Rattle.dns_item.specs.Items.{RecordItem}
use Rattle.dns_read.specs.declared.section.Section.{Section}
use Rattle.dns_read.specs.declared.section.Section.TheVariants.{Answer, Authority, Additional}
use Rattle.dns_build.specs.State.{State, Stage, InQuestion, InAdditional, stage_of, move_to, rewound, with_questions, with_record, with_records, records_at, most_entries, depth_of}
use Rattle.dns_build.specs.BuilderStates.{PushReturns, fresh, size_after}
use Rattle.dns_build.specs.Answers.{ReturnsQuestion}
use Rattle.dns_build.specs.MessageOf.{IsMessageOf}
use Rattle.dns_build.specs.declared.push_error.PushError.{PushError}
use Rattle.dnsm_status.specs.Codes.{append_fault, number_of, push_fault}
use Rattle.dnsm_text.specs.Texts.{SpellsNoName}
use Rattle.dnsm_read.specs.Walk.{section_at}
use Rattle.dnsm_status.specs.declared.code.CallError.TheVariants as faults
use Rattle.dnsm_make.specs.declared.build.NewItem.{NewItem}

-- What C passes.

-- an entry to write: a question, or a record of a section
pub data NewEntry : Type 0 where
  Question : QuestionItem → NewEntry
  Record : Section → RecordItem → NewEntry

-- an item as a question: the name that the text spells, its type and its class; TTL and RDATA are ignored
pub record IsQuestionOf (item : NewItem) (x : QuestionItem) : Type 0 where
  pub name : SpellsName item.name.now x.name
  pub rtype : x.rtype ≡ item.rtype
  pub class : x.class ≡ item.class

-- the type whose fields an item's RDATA has. RFC 2136 section 2.4
abbrev pub item_data_type : NewItem → ℕ
item_data_type item = layout_type item.class (length item.rdata.now) item.rtype

-- the parts of an item's RDATA: its octets are the fields of that type, uncompressed. RFC 1035 section 4.1.4
abbrev pub IsDataOf : NewItem → List Part → Type 0
IsDataOf item parts = IsUncompressedData (item_data_type item) item.rdata.now parts

-- its octets aren't these fields; or they are, but not uncompressed
abbrev pub HasNoFields : NewItem → Type 0
HasNoFields item = (fault : Fault) × UncompressedDataFault (item_data_type item) item.rdata.now fault

-- an item as a record: also its TTL and its RDATA
pub record IsRecordOf (item : NewItem) (x : RecordItem) : Type 0 where
  pub owner : SpellsName item.name.now x.owner
  pub rtype : x.rtype ≡ item.rtype
  pub class : x.class ≡ item.class
  pub ttl : x.ttl ≡ item.ttl
  pub parts : IsDataOf item x.parts
  pub short : length item.rdata.now ≤ 65535

-- an item is this entry: section 0 is the question section, 1 to 3 are those of records
abbrev pub Means : NewItem → NewEntry → Type 0
Means item (Question x) = (item.section ≡ 0) × IsQuestionOf item x
Means item (Record which x) = (1 ≤ item.section) × (item.section ≤ 3) × (section_at item.section ≡ which) × IsRecordOf item x

-- each item is the entry at its index
abbrev pub AllMean : List NewItem → List NewEntry → Type 0
AllMean [] [] = Unit {0}
AllMean [] (x ∷ xs) = ⊥
AllMean (item ∷ items) [] = ⊥
AllMean (item ∷ items) (x ∷ xs) = Means item x × AllMean items xs

-- each item of the question section is a question
abbrev pub AreQuestions : List NewItem → Type 0
AreQuestions items = All (λ item. item.section ≡ 0 → (x : QuestionItem) × IsQuestionOf item x) items

-- each item of this section is a record; the number of a section plus one is the depth of its stage
abbrev pub AreRecords : Section → List NewItem → Type 0
AreRecords which items = All (λ item. item.section + 1 ≡ depth_of (stage_of which) → (x : RecordItem) × IsRecordOf item x) items

-- What is written.

-- an entry as a question, if it is one; as a record of this section, if it is one
abbrev pub as_question : NewEntry → Option QuestionItem
as_question (Question x) = Some x
as_question (Record which x) = None

abbrev pub as_record : Section → NewEntry → Option RecordItem
as_record Answer (Record Answer x) = Some x
as_record Authority (Record Authority x) = Some x
as_record Additional (Record Additional x) = Some x
as_record which _ = None

-- the questions among entries, and the records of a section, in order
abbrev pub questions_among : List NewEntry → List QuestionItem
questions_among xs = filter_map as_question xs

abbrev pub records_among : Section → List NewEntry → List RecordItem
records_among which xs = filter_map (as_record which) xs

-- the fields of the header with this ID, whose third and fourth octets are `flags`
abbrev pub header_of : ℕ → ℕ → HeaderFields
header_of id flags = fields_in (to_be_bytes w16 id ++ to_be_bytes w16 flags)

-- the state of a builder with this header and these entries, each in its section, in order
abbrev pub holding : HeaderFields → List NewEntry → State
holding header xs = record fresh {
  stage = InAdditional;
  header = header;
  questions = questions_among xs;
  answers = records_among Answer xs;
  authorities = records_among Authority xs;
  additionals = records_among Additional xs;
}

-- the octets of a message with this header and the entries that the items are, its names written by `rule`
pub record IsBuilt (rule : Rule) (id flags : ℕ) (items : List NewItem) (octets : List ℕ) : Type 0 where
  pub entries : List NewEntry
  pub mean : AllMean items entries
  pub message : IsMessageOf rule (holding (header_of id flags) entries) octets

-- Why nothing is written.

-- an item has no valid name, or too much RDATA, or octets that aren't RDATA of its type
abbrev pub LacksFields : NewItem → ℕ → Type 0
LacksFields item n =
    (SpellsNoName item.name.now × (n ≡ number_of faults.BadText))
    ⊎ (((name : Labels) × SpellsName item.name.now name) × (65535 < length item.rdata.now) × (n ≡ number_of faults.LongData))
    ⊎ (((name : Labels) × SpellsName item.name.now name) × (length item.rdata.now ≤ 65535) × HasNoFields item × (n ≡ number_of faults.BadData))

-- An item is no entry, and the number says why: the first of a bad section, a text that spells no name, too much RDATA of a record, and RDATA that isn't that of its type.
abbrev pub IsRefused : NewItem → ℕ → Type 0
IsRefused item n =
    ((3 < item.section) × (n ≡ number_of faults.BadSection))
    ⊎ ((item.section ≡ 0) × SpellsNoName item.name.now × (n ≡ number_of faults.BadText))
    ⊎ ((1 ≤ item.section) × (item.section ≤ 3) × LacksFields item n)

-- the first item that is no entry is refused with this number
abbrev pub FirstRefused : List NewItem → ℕ → Type 0
FirstRefused [] n = ⊥
FirstRefused (item ∷ items) n = IsRefused item n ⊎ (((x : NewEntry) × Means item x) × FirstRefused items n)

-- the state at which a stage begins: the header, and the entries of the sections before it
abbrev pub beginning_of : Stage → HeaderFields → List NewEntry → State
beginning_of stage header xs = rewound stage (move_to stage (holding header xs))

-- what pushing a record onto a state returns
abbrev pub ReturnsRecordPush : Option ℕ → Bool → Rule → Stage → RecordItem → State → Result (Unit {0}) PushError → Type 0
ReturnsRecordPush capacity grows rule stage x s = PushReturns capacity grows s.limit (size_after rule (with_record stage x) s) (length (records_at stage s))

-- Why a target refuses what is written, and the number that reports it. `capacity`, `grows` and `rule` are the target's capacity, whether it allocates, and how it writes names.
module _ (capacity : Option ℕ) (grows : Bool) (rule : Rule) where
  -- the target refuses the header section. RFC 1035 section 4.1.1
  pub record RefusesHeader (n : ℕ) : Type 0 where
    pub error : AppendError
    pub refused : AppendReturns {X = Unit {0}} capacity grows header_size (Err error)
    pub number : n ≡ number_of (append_fault error)

  -- the first of these questions are pushed onto a state, and pushing the next one fails. RFC 1035 section 4.1.2
  pub record RefusesQuestion (xs : List QuestionItem) (s : State) (n : ℕ) : Type 0 where
    pub first : List QuestionItem
    pub next : QuestionItem
    pub others : List QuestionItem
    pub all : xs ≡ first ++ next ∷ others
    pub error : PushError
    pub refused : ReturnsQuestion capacity grows rule next (with_questions first s) (Err error)
    pub number : n ≡ number_of (push_fault error)

  -- the first of these records of a stage are pushed onto a state, and pushing the next one fails. RFC 1035 section 4.1.3
  pub record RefusesRecord (stage : Stage) (xs : List RecordItem) (s : State) (n : ℕ) : Type 0 where
    pub first : List RecordItem
    pub next : RecordItem
    pub others : List RecordItem
    pub all : xs ≡ first ++ next ∷ others
    pub error : PushError
    pub refused : ReturnsRecordPush capacity grows rule stage next (with_records stage first s) (Err error)
    pub number : n ≡ number_of (push_fault error)

  -- pushing an entry fails, after the header and the entries before it. RFC 1035 section 4.1
  abbrev pub RefusesEntry : HeaderFields → List NewEntry → ℕ → Type 0
  RefusesEntry header xs n =
      RefusesQuestion (questions_among xs) (beginning_of InQuestion header xs) n
      ⊎ ((which : Section) × RefusesRecord (stage_of which) (records_among which xs) (beginning_of (stage_of which) header xs) n)

  -- the target refuses the header section or an entry
  abbrev pub RefusesEntries : HeaderFields → List NewEntry → ℕ → Type 0
  RefusesEntries header xs n = RefusesHeader n ⊎ RefusesEntry header xs n

  -- No message is built from the items: one of them is no entry; or all are, and the target refuses the header section or an entry.
  abbrev pub IsUnbuilt : HeaderFields → List NewItem → ℕ → Type 0
  IsUnbuilt header items n = FirstRefused items n ⊎ ((xs : List NewEntry) × AllMean items xs × RefusesEntries header xs n)

-- all items are entries, and a section has more of them than its 16-bit count can hold. RFC 1035 section 4.1.1
abbrev pub HasTooMany : List NewItem → Type 0
HasTooMany items =
    (xs : List NewEntry) × AllMean items xs × ((most_entries < length (questions_among xs)) ⊎ ((which : Section) × (most_entries < length (records_among which xs))))
