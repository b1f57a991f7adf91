-- What a call of `dnsm_next` returns, and where it leaves the cursor. RFC 1035 section 4.1.
--
-- `b` are the octets of the message.
use Rattle.std.specs.Prelude.{◌≡◌, ◌⊎◌, ℕ, zero, suc, ◌+◌, ◌-◌, ◌<◌, ◌≤◌, List, [], ◌∷◌, length, take, Bool, true, false, Result, Ok, Err}
use Rattle.std.specs.Int.{w32}
use Rattle.dns_octets.specs.declared.error.ParseError.{ParseError}
use Rattle.dns_name.specs.Names.{Fault, NameAt, NameEndsAt, fault_of}
use Rattle.dns_name.specs.Parsers.{number_at}
use Rattle.dns_code.specs.Bits.{number_in}
use Rattle.dns_code.specs.Header.{fields_in}
use Rattle.dns_code.specs.HeaderSection.{header_size}
use Rattle.dns_item.specs.Questions.{QuestionItem, SkipsQuestion, ReadsQuestion, QuestionFaultAt}
use Rattle.dns_item.specs.Items.{RecordEntry, SkipsRecord, ReadsRecord, RecordFaultAt}
use Rattle.dns_item.specs.RecordHeader.{AreFieldsAt}
use Rattle.dns_read.specs.Sections.{question_count, answer_count, authority_count, additional_count}
use Rattle.dnsm_status.specs.Codes.{code_of, number_of, ReportsFault}
use Rattle.dnsm_read.specs.Names.{IsCachedOffset}
use Rattle.dnsm_read.specs.Walk.{Entry, Asked, Stated, Given, count_at, left_at, section_at, walk_of}
use Rattle.dnsm_status.specs.declared.code.CallError.{CallError as FaultGiven}
use Rattle.dnsm_read.specs.declared.walk.Cursor.{Cursor}
use Rattle.dnsm_read.specs.declared.walk.Header.{Header}
use Rattle.dnsm_read.specs.declared.walk.Item.{Item}

-- If n items are still to come in a section, the first of them at offset p, the last item of the message ends at `end`. The question section has the number 0.
pub data Ends (b : List ℕ) : ℕ → ℕ → ℕ → ℕ → Type 0 where
  -- no item is to come
  nothing : {p : ℕ} → Ends b 3 0 p p
  -- none in this section
  next_section : {s p end : ℕ} → s < 3 → Ends b (s + 1) (count_at b (s + 1)) p end → Ends b s 0 p end
  -- a question, and then the other items
  next_question : {n p q end : ℕ} → SkipsQuestion b p q → Ends b 0 n q end → Ends b 0 (suc n) p end
  -- a record, and then the other items
  next_record : {s n p q end : ℕ} → SkipsRecord b p q → Ends b (suc s) n q end → Ends b (suc s) (suc n) p end

-- the last item of the message ends at `end`
abbrev pub MessageEndsAt : List ℕ → ℕ → Type 0
MessageEndsAt b end = Ends b 0 (question_count b) header_size end

-- it does if it has the items still to come at a cursor
abbrev pub EndsFrom : List ℕ → Cursor → ℕ → Type 0
EndsFrom b cursor end = Ends b cursor.section cursor.left cursor.place end

-- the entry of this section that begins at p ends at q
abbrev pub SkipsEntry : List ℕ → ℕ → ℕ → ℕ → Type 0
SkipsEntry b zero p q = SkipsQuestion b p q
SkipsEntry b (suc s) p q = SkipsRecord b p q

-- the entry of this section that begins at p has this fault
abbrev pub EntryFaultAt : List ℕ → ℕ → ℕ → Fault → Type 0
EntryFaultAt b zero p f = QuestionFaultAt b p f
EntryFaultAt b (suc s) p f = RecordFaultAt b p f

-- n items are left in section s once a cursor has moved past sections that have none: s is its own, or a later one that it enters
abbrev pub LeftIn : List ℕ → Cursor → ℕ → ℕ → Type 0
LeftIn b cursor s n = ((s ≡ cursor.section) × (n ≡ cursor.left)) ⊎ ((cursor.section < s) × (cursor.left ≡ 0) × (n ≡ count_at b s))

-- the entries still to come at a cursor
abbrev pub left_from : List ℕ → Cursor → List Given
left_from b cursor = left_at b cursor.section cursor.left cursor.place

-- A cursor over a message that has reported no error. Its `owner` is 0, or the offset of some name of the message.
pub record IsOpen (b : List ℕ) (cursor : Cursor) : Type 0 where
  pub long : header_size ≤ length b
  pub section : cursor.section ≤ 3
  pub status : cursor.status ≡ 0
  pub owner : IsCachedOffset b cursor.owner

-- the header and the counts that C gets
pub record IsHeader (b : List ℕ) (header : Header) : Type 0 where
  pub id : header.id ≡ (fields_in (take 4 b)).id
  pub flags : header.flags ≡ number_in (take 4 b) 2
  pub counts : header.counts ≡ question_count b ∷ answer_count b ∷ authority_count b ∷ additional_count b ∷ []
  pub opcode : header.opcode ≡ (fields_in (take 4 b)).opcode
  pub rcode : header.rcode ≡ (fields_in (take 4 b)).rcode

-- what `dnsm_open` returns: the header, and a cursor before the first question, with all entries still to come
pub record Opens (b : List ℕ) (header : Header) (cursor : Cursor) : Type 0 where
  pub fields : IsHeader b header
  pub is_open : IsOpen b cursor
  pub section : cursor.section ≡ 0
  pub place : cursor.place ≡ header_size
  pub left : cursor.left ≡ question_count b
  pub walk : left_from b cursor ≡ walk_of b
  pub end : (end : ℕ) → EndsFrom b cursor end → MessageEndsAt b end

-- the item that C gets describes this question
pub record ReportsQuestion (b : List ℕ) (item : Item) (x : QuestionItem) : Type 0 where
  pub section : item.section ≡ 0
  pub name : NameAt b item.place x.name
  pub rtype : item.rtype ≡ x.rtype
  pub class : item.class ≡ x.class
  pub ttl : item.ttl ≡ 0
  pub data_len : item.data_len ≡ 0
  pub within : item.«data» ≤ length b

-- The item describes the fields of a record, which follow its owner. The owner needn't be a name. The four octets of the TTL are those before RDLENGTH. RFC 1035 section 4.1.3.
pub record ReportsFields (b : List ℕ) (item : Item) : Type 0 where
  pub owner_end : ℕ
  pub owner_ends : NameEndsAt b item.place owner_end
  pub fields : AreFieldsAt b owner_end item.rtype item.class item.ttl item.data_len
  pub rdata_start : item.«data» ≡ owner_end + 10
  pub ttl_place : item.ttl ≡ number_at w32 b (item.«data» - 6)

-- the item describes this record, which is encoded at the item's offset
pub record ReportsRecord (b : List ℕ) (item : Item) (x : RecordEntry) : Type 0 where
  pub read : ReadsRecord b item.place x.rdata_end x
  pub rtype : item.rtype ≡ x.rtype
  pub class : item.class ≡ x.class
  pub ttl : item.ttl ≡ x.ttl
  pub rdata_start : item.«data» ≡ x.rdata_start
  pub rdata_end : item.«data» + item.data_len ≡ x.rdata_end
  pub within : item.«data» + item.data_len ≤ length b
  pub fields : ReportsFields b item

-- the item describes this entry; the section of a record is a number from 1 to 3
abbrev pub Reports : List ℕ → Item → Entry → Type 0
Reports b item (Asked x) = ReportsQuestion b item x
Reports b item (Stated which x) = ReportsRecord b item x × (1 ≤ item.section) × (item.section ≤ 3) × (section_at item.section ≡ which)

-- an item begins at p, and its RDATA ends at q; a question has none, and ends at q
pub record Spans (item : Item) (p q : ℕ) : Type 0 where
  pub start : item.place ≡ p
  pub end : item.«data» + item.data_len ≡ q

-- What reading at a cursor returns if one more entry is to come: that entry and the offset after it, or the error that is to come.
abbrev pub ReturnsEntry : List ℕ → Cursor → Result (Item × ℕ) ParseError → Type 0
ReturnsEntry b cursor (Ok found) =
    (x : Entry) × Reports b found.0 x × ((n : ℕ) → cursor.left ≡ suc n → left_from b cursor ≡ Ok x ∷ left_at b cursor.section n found.1)
ReturnsEntry b cursor (Err e) =
    EntryFaultAt b cursor.section cursor.place (fault_of e) × ((n : ℕ) → cursor.left ≡ suc n → left_from b cursor ≡ Err (fault_of e) ∷ [])

-- what reading a question at p returns: the question and the offset after it, or the error there
abbrev pub ReturnsQuestion : List ℕ → ℕ → Result (Item × ℕ) ParseError → Type 0
ReturnsQuestion b p (Ok found) = (x : QuestionItem) × ReadsQuestion b p found.1 x × ReportsQuestion b found.0 x
ReturnsQuestion b p (Err e) = QuestionFaultAt b p (fault_of e)

-- what reading a record at p returns, for the section of a number
abbrev pub ReturnsRecord : List ℕ → ℕ → ℕ → Result (Item × ℕ) ParseError → Type 0
ReturnsRecord b section p (Ok found) = (x : RecordEntry) × ReadsRecord b p found.1 x × ReportsRecord b found.0 x × (found.0.section ≡ section)
ReturnsRecord b section p (Err e) = RecordFaultAt b p (fault_of e)

-- The next entry is returned, and those after it remain. Or nothing is left, and nothing is returned. Or the error that is left is returned, and the cursor keeps its number and stays where it is.
abbrev pub Steps : List ℕ → Cursor → Cursor → Item → Result Bool FaultGiven → Type 0
Steps b old new item (Ok true) = (x : Entry) × (left_from b old ≡ Ok x ∷ left_from b new) × Reports b item x × IsOpen b new
Steps b old new item (Ok false) = (left_from b old ≡ []) × (left_from b new ≡ []) × IsOpen b new
Steps b old new item (Err fault) =
    (f : Fault) × (left_from b old ≡ Err f ∷ []) × ReportsFault f (number_of fault) × (new.status ≡ number_of fault) × EntryFaultAt b new.section new.place f

-- what C gets from a call of `dnsm_next`, as a number
abbrev pub GivesNext : List ℕ → Cursor → Cursor → Item → ℕ → Type 0
GivesNext b old new item code = (answer : Result Bool FaultGiven) × (code ≡ code_of answer) × Steps b old new item answer
