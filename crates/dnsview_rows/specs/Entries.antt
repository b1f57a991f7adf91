-- The rows of what reading the sections of a message gives: of questions and records, one for each field, up to a fault. RFC 1035 sections 4.1.1 to 4.1.4.
--
-- `b` is the octets of the message.
use Rattle.std.specs.Prelude.{◌≡◌, ℕ, suc, ◌+◌, ◌-◌, ◌<◌, ◌==◌, Bool, true, false, if◌then◌else◌, List, [], ◌∷◌, ◌++◌, Option, Some, None, Result, Ok, Err}
use Rattle.std.specs.Int.{w16}
use Rattle.dns_name.specs.Names.{Fault, Labels, NameAt, NameEndsAt}
use Rattle.dns_name.specs.Names.Fault.{ShortInput}
use Rattle.dns_name.specs.Parsers.{number_at}
use Rattle.dns_code.specs.HeaderSection.{header_size}
use Rattle.dns_item.specs.Questions.{QuestionItem, ReadsQuestion, QuestionFaultAt}
use Rattle.dns_item.specs.Items.{RecordEntry, ReadsRecord, RecordFaultAt}
use Rattle.dns_item.specs.RecordReading.{up_to_rdata_end}
use Rattle.dns_read.specs.QuestionsFrom.{questions_from}
use Rattle.dns_read.specs.RecordsFrom.{records_from}
use Rattle.dns_read.specs.Sections.{question_count, answer_count, authority_count, additional_count, AnswersStart, AuthoritiesStart, AdditionalsStart}
use Rattle.fields_table.specs.LayoutTypes.{layout_type}
use Rattle.dnsview_rows.specs.Data.{opt_type, ShowsData}
use Rattle.dnsview_rows.specs.Faults.{LacksName}
use Rattle.dnsview_rows.specs.Fields.{field_row, CutRows}
use Rattle.dnsview_rows.specs.Named.{NameRows}
use Rattle.dnsview_rows.specs.declared.row.Row.{Row}
use Rattle.dnsview_rows.specs.declared.row.Part.{Part}
use Rattle.dnsview_rows.specs.declared.row.Part.TheVariants.{Question, Answer, Authority, Additional}
use Rattle.dnsview_rows.specs.declared.row.NameOf.{NameOf}
use Rattle.dnsview_rows.specs.declared.row.NameOf.TheVariants as names
use Rattle.dnsview_rows.specs.declared.row.RowField.TheVariants as fields
use Rattle.dnsview_rows.specs.declared.row.RowFault as rows
use Rattle.dnsview_rows.specs.declared.row.RowFault.TheVariants.{Trailing}

-- the row where an item begins
abbrev pub item_row : Part → ℕ → ℕ → Row
item_row part number p = field_row p p (fields.Item part number)

-- the rows of a question's numbers, after a name that ends at r. RFC 1035 section 4.1.2.
abbrev pub question_rows : ℕ → List Row
question_rows r = field_row r (r + 2) fields.Type ∷ field_row (r + 2) (r + 4) fields.Class ∷ []

-- a question extends from p to q, and has these rows: where it begins, its name, its type and its class
pub record ShowsQuestion (b : List ℕ) (number : ℕ) (x : QuestionItem) (p q : ℕ) (rows : List Row) : Type 0 where
  pub reads : ReadsQuestion b p q x
  pub name_rows : List Row
  pub name : NameRows b names.Question p p reads.skips.name_end name_rows
  pub made : rows ≡ item_row Question number p ∷ (name_rows ++ question_rows reads.skips.name_end)

-- the rows at p of an OPT record, in place of CLASS and TTL. RFC 6891 sections 6.1.2 and 6.1.3.
abbrev pub opt_rows : ℕ → List Row
opt_rows p =
    field_row p (p + 2) fields.PayloadSize ∷ field_row (p + 2) (p + 3) fields.ExtendedRcode ∷ field_row (p + 3) (p + 4) fields.Version ∷ field_row (p + 4) (p + 6) fields.OptFlags ∷ []

-- the rows at p of CLASS and TTL of a record of this type, or those of an OPT record. RFC 1035 section 4.1.3.
abbrev pub class_rows : ℕ → ℕ → List Row
class_rows rtype p = if rtype == opt_type then opt_rows p else field_row p (p + 2) fields.Class ∷ field_row (p + 2) (p + 6) fields.Ttl ∷ []

-- the rows of the numbers of a record of this type, after an owner that ends at r: TYPE to RDLENGTH. RFC 1035 section 4.1.3.
abbrev pub number_rows : ℕ → ℕ → List Row
number_rows rtype r = field_row r (r + 2) fields.Type ∷ (class_rows rtype (r + 2) ++ field_row (r + 8) (r + 10) fields.RdLength ∷ [])

-- the type whose fields the RDATA of a record has
abbrev pub data_type : RecordEntry → ℕ
data_type x = layout_type x.class (x.rdata_end - x.rdata_start) x.rtype

-- a record extends from p to q, and has these rows: where it begins, its owner, its numbers, and the fields of its RDATA
pub record ShowsRecord (b : List ℕ) (part : Part) (number : ℕ) (x : RecordEntry) (p q : ℕ) (rows : List Row) : Type 0 where
  pub reads : ReadsRecord b p q x
  pub owner_rows : List Row
  pub owner : NameRows b names.Owner p p reads.skips.name_end owner_rows
  pub data_rows : List Row
  pub value : ShowsData (up_to_rdata_end b x) (data_type x) None x.rdata_start x.rdata_end data_rows
  pub made : let r = reads.skips.name_end in
      rows ≡ item_row part number p ∷ (owner_rows ++ (number_rows x.rtype r ++ data_rows))

-- the fault of RDATA: that of the field that can't be read, or octets that follow the last field
abbrev pub data_fault : Option rows.RowFault → rows.RowFault
data_fault None = Trailing
data_fault (Some fault) = fault

-- A record at p can be read, but not its RDATA: a field can't be read at `offset`, or octets follow the last field there. `shown` are the rows up to `offset`, after the row where the record begins.
pub record DataStops (b : List ℕ) (x : RecordEntry) (p offset : ℕ) (fault : rows.RowFault) (shown : List Row) : Type 0 where
  pub end : ℕ
  pub reads : ReadsRecord b p end x
  pub owner_rows : List Row
  pub owner : NameRows b names.Owner p p reads.skips.name_end owner_rows
  pub data_rows : List Row
  pub stop : Option rows.RowFault
  pub value : ShowsData (up_to_rdata_end b x) (data_type x) stop x.rdata_start offset data_rows
  pub left_over : stop ≡ None → offset < x.rdata_end
  pub reported : fault ≡ data_fault stop
  pub made : shown ≡ owner_rows ++ (number_rows x.rtype reads.skips.name_end ++ data_rows)

-- An item at p, which is a name and the fields after it, can't be read: its name can't be, or a field is incomplete. The rows are those up to there, after the
-- row where the item begins. RFC 1035 sections 4.1.2 to 4.1.4.
pub data LacksItem (b : List ℕ) (of : NameOf) (after : ℕ → List Row) (p : ℕ) : Fault → ℕ → rows.RowFault → List Row → Type 0 where
  name : {f : Fault} {offset : ℕ} {fault : rows.RowFault} {shown : List Row} → LacksName b of p f offset fault shown → LacksItem b of after p f offset fault shown
  short : {name : Labels} {r offset : ℕ} {fault : rows.RowFault} (name_rows others : List Row) → NameAt b p name → NameEndsAt b p r → NameRows b of p p r name_rows
      → CutRows b (after r) offset fault others → LacksItem b of after p ShortInput offset fault (name_rows ++ others)

-- the rows of the fields after the owner of a record, which ends at r: its numbers, and its RDATA as a whole. RFC 1035 section 4.1.3.
abbrev pub record_rows : List ℕ → ℕ → List Row
record_rows b r = number_rows (number_at w16 b r) r ++ field_row (r + 10) (r + 10 + number_at w16 b (r + 8)) fields.Data ∷ []

-- a question at p can't be read
abbrev pub QuestionStops : List ℕ → Result QuestionItem Fault → ℕ → ℕ → rows.RowFault → List Row → Type 0
QuestionStops b (Ok x) p offset fault shown = ⊥
QuestionStops b (Err f) p offset fault shown = QuestionFaultAt b p f × LacksItem b names.Question question_rows p f offset fault shown

-- a record at p can't be read, or its RDATA can't
abbrev pub RecordStops : List ℕ → Result RecordEntry Fault → ℕ → ℕ → rows.RowFault → List Row → Type 0
RecordStops b (Ok x) p offset fault shown = DataStops b x p offset fault shown
RecordStops b (Err f) p offset fault shown = RecordFaultAt b p f × LacksItem b names.Owner (record_rows b) p f offset fault shown

-- The sections of a message, which `Part` names, and what reading them gives. RFC 1035 section 4.1.

-- what is read of an item of a section
abbrev pub Entry : Part → Type 0
Entry Question = QuestionItem
Entry Answer = RecordEntry
Entry Authority = RecordEntry
Entry Additional = RecordEntry

-- whether a section holds records: all do but the question section
abbrev pub holds_records : Part → Bool
holds_records Question = false
holds_records Answer = true
holds_records Authority = true
holds_records Additional = true

-- the reading of at most n items of a section from offset p
abbrev pub reading_from : List ℕ → (part : Part) → ℕ → ℕ → List (Result (Entry part) Fault)
reading_from b Question n p = questions_from b n p
reading_from b Answer n p = records_from b n p
reading_from b Authority n p = records_from b n p
reading_from b Additional n p = records_from b n p

-- the count of items in a section, from the header section. RFC 1035 section 4.1.1.
abbrev pub count_of : List ℕ → Part → ℕ
count_of b Question = question_count b
count_of b Answer = answer_count b
count_of b Authority = authority_count b
count_of b Additional = additional_count b

-- a section starts at p: the question section after the header section, each other as `dns_read` says
abbrev pub PartStarts : List ℕ → Part → ℕ → Type 0
PartStarts b Question p = p ≡ header_size
PartStarts b Answer p = AnswersStart b p
PartStarts b Authority p = AuthoritiesStart b p
PartStarts b Additional p = AdditionalsStart b p

-- the sections in order
abbrev pub all_parts : List Part
all_parts = Question ∷ Answer ∷ Authority ∷ Additional ∷ []

-- an item of a section extends from p to q, and has these rows
abbrev pub ShowsItem : List ℕ → (part : Part) → ℕ → Entry part → ℕ → ℕ → List Row → Type 0
ShowsItem b Question number x p q rows = ShowsQuestion b number x p q rows
ShowsItem b Answer number x p q rows = ShowsRecord b Answer number x p q rows
ShowsItem b Authority number x p q rows = ShowsRecord b Authority number x p q rows
ShowsItem b Additional number x p q rows = ShowsRecord b Additional number x p q rows

-- an item of a section, read as x, stops with a fault at `offset`, and `shown` are the rows up to there, after the row where the item begins
abbrev pub ItemStops : List ℕ → (part : Part) → Result (Entry part) Fault → ℕ → ℕ → rows.RowFault → List Row → Type 0
ItemStops b Question x p offset fault shown = QuestionStops b x p offset fault shown
ItemStops b Answer x p offset fault shown = RecordStops b x p offset fault shown
ItemStops b Authority x p offset fault shown = RecordStops b x p offset fault shown
ItemStops b Additional x p offset fault shown = RecordStops b x p offset fault shown

-- an item begins at p and stops with a fault at `offset`, and these are its rows up to there
pub record StopsItem (b : List ℕ) (part : Part) (number : ℕ) (x : Result (Entry part) Fault) (p offset : ℕ) (fault : rows.RowFault) (rows : List Row) : Type 0 where
  pub others : List Row
  pub stops : ItemStops b part x p offset fault others
  pub made : rows ≡ item_row part number p ∷ others

-- The rows of a reading of a section's items, from p to q, where the first item has this number: those of its entries in order. If an item stops with a fault,
-- they end at the fault, and nothing read after it is shown.
pub data ReadingRows (b : List ℕ) (part : Part) : ℕ → List (Result (Entry part) Fault) → Option rows.RowFault → ℕ → ℕ → List Row → Type 0 where
  none : {number p : ℕ} → ReadingRows b part number [] None p p []
  entry : {number p q r : ℕ} {x : Entry part} {others : List (Result (Entry part) Fault)} {stop : Option rows.RowFault} (rows after : List Row)
      → ShowsItem b part number x p q rows → ReadingRows b part (suc number) others stop q r after → ReadingRows b part number (Ok x ∷ others) stop p r (rows ++ after)
  stops : {number p offset : ℕ} {x : Result (Entry part) Fault} {others : List (Result (Entry part) Fault)} {fault : rows.RowFault} {rows : List Row}
      → StopsItem b part number x p offset fault rows → ReadingRows b part number (x ∷ others) (Some fault) p offset rows

-- the reading of a section that starts at p
abbrev pub reading_of : List ℕ → (part : Part) → ℕ → List (Result (Entry part) Fault)
reading_of b part p = reading_from b part (count_of b part) p

-- The rows of consecutive sections, from p to q: each starts where the rows before it end, and its rows are those of its reading, up to the fault, if there is
-- one. Nothing is shown of the sections after the fault.
pub data ShowsParts (b : List ℕ) : List Part → Option rows.RowFault → ℕ → ℕ → List Row → Type 0 where
  none : {p : ℕ} → ShowsParts b [] None p p []
  all : {part : Part} {parts : List Part} {p q r : ℕ} {stop : Option rows.RowFault} (rows others : List Row)
      → PartStarts b part p → ReadingRows b part 1 (reading_of b part p) None p q rows → ShowsParts b parts stop q r others
      → ShowsParts b (part ∷ parts) stop p r (rows ++ others)
  fault : {part : Part} {parts : List Part} {p offset : ℕ} {fault : rows.RowFault} {rows : List Row}
      → PartStarts b part p → ReadingRows b part 1 (reading_of b part p) (Some fault) p offset rows → ShowsParts b (part ∷ parts) (Some fault) p offset rows
