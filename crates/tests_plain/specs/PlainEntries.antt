-- What plain entries say of octets. RFC 1035 sections 4.1.2 and 4.1.3.
use Rattle.std.specs.Prelude.{◌≡◌, ℕ, ◌+◌, ◌<◌, List, length}
use Rattle.dns_name.specs.Names.{Fault, uncompressed}
use Rattle.dns_item.specs.AfterNames.{SkipsFields, FieldsSkipFaultAt}
use Rattle.dns_item.specs.Questions.{QuestionItem, ReadsQuestion, QuestionFaultAt, SkipsQuestion, QuestionSkipFaultAt}
use Rattle.dns_item.specs.Items.{HeaderEntry, ReadsHeader, HeaderFaultAt, RecordEntry, ReadsRecord, RecordFaultAt, SkipsRecord, RecordSkipFaultAt}
use Rattle.tests_plain.specs.declared.reading.PlainEntry.{PlainEntry}
use Rattle.tests_plain.specs.declared.reading.EntryKind.{EntryKind}
use Rattle.tests_plain.specs.declared.reading.EntryKind.TheVariants.{Question, Header, Record}

-- A question is encoded from p to q, and this is it. It has no TTL and no RDATA.
pub record ShowsQuestion (b : List ℕ) (p q : ℕ) (x : PlainEntry) : Type 0 where
  pub item : QuestionItem
  pub reads : ReadsQuestion b p q item
  pub name : x.name.items ≡ uncompressed item.name
  pub rtype : x.rtype ≡ item.rtype
  pub class : x.class ≡ item.class
  pub ttl : x.ttl ≡ 0
  pub rdlen : x.rdlen ≡ 0
  pub end : x.end ≡ q

-- A record header is encoded from p to q, and this is it.
pub record ShowsHeader (b : List ℕ) (p q : ℕ) (x : PlainEntry) : Type 0 where
  pub item : HeaderEntry
  pub reads : ReadsHeader b p q item
  pub name : x.name.items ≡ uncompressed item.owner
  pub rtype : x.rtype ≡ item.rtype
  pub class : x.class ≡ item.class
  pub ttl : x.ttl ≡ item.ttl
  pub rdlen : x.rdlen ≡ item.rdlen
  pub end : x.end ≡ q

-- A record is encoded from p to q, and this is it.
pub record ShowsRecord (b : List ℕ) (p q : ℕ) (x : PlainEntry) : Type 0 where
  pub item : RecordEntry
  pub reads : ReadsRecord b p q item
  pub name : x.name.items ≡ uncompressed item.owner
  pub rtype : x.rtype ≡ item.rtype
  pub class : x.class ≡ item.class
  pub ttl : x.ttl ≡ item.ttl
  pub rdlen : item.rdata_start + x.rdlen ≡ item.rdata_end
  pub end : x.end ≡ item.rdata_end

-- An entry of a kind is encoded from p to q, and this is it.
abbrev pub ShowsEntry : EntryKind → List ℕ → ℕ → ℕ → PlainEntry → Type 0
ShowsEntry Question b = ShowsQuestion b
ShowsEntry Header b = ShowsHeader b
ShowsEntry Record b = ShowsRecord b

-- Why no entry of a kind can be read at offset p.
abbrev pub EntryFaultAt : EntryKind → List ℕ → ℕ → Fault → Type 0
EntryFaultAt Question b = QuestionFaultAt b
EntryFaultAt Header b = HeaderFaultAt b
EntryFaultAt Record b = RecordFaultAt b

-- An entry of a kind takes the octets from p to q. No pointer is followed.
abbrev pub SkipsEntry : EntryKind → List ℕ → ℕ → ℕ → Type 0
SkipsEntry Question b = SkipsQuestion b
SkipsEntry Header b = SkipsFields b (λ r. 10)
SkipsEntry Record b = SkipsRecord b

-- Why no entry of a kind can be skipped at offset p.
abbrev pub EntrySkipFaultAt : EntryKind → List ℕ → ℕ → Fault → Type 0
EntrySkipFaultAt Question b = QuestionSkipFaultAt b
EntrySkipFaultAt Header b = FieldsSkipFaultAt b (λ r. length b < r + 10)
EntrySkipFaultAt Record b = RecordSkipFaultAt b
