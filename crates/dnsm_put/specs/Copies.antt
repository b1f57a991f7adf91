-- Items of another message that are put in a draft, and why one isn't. RFC 1035 sections 4.1.2 to 4.1.4.
--
-- `b` is the octets of that message.
use Rattle.std.specs.Prelude.{◌≡◌, ◌≢◌, ℕ, ◌+◌, ◌<◌, ◌≤◌, ◌^◌, ◌⊎◌, List, length, min, get_or}
use Rattle.dns_name.specs.Names.{Fault, Labels, NameAt, FaultAt, uncompressed}
use Rattle.dns_code.specs.HeaderSection.{header_size}
use Rattle.dns_wire.specs.Parts.{Part, parts_size}
use Rattle.dns_item.specs.Questions.{QuestionItem, IsQuestion}
use Rattle.dns_item.specs.Items.{RecordItem, IsRecord}
use Rattle.dnsm_read.specs.DataFields.{IsDataIn}
use Rattle.dnsm_read.specs.declared.walk.Item.{Item}
use Rattle.dnsm_put.specs.declared.draft.Draft.{Draft}
use Rattle.dnsm_put.specs.declared.draft.PutItem.{PutItem}
use Rattle.dnsm_put.specs.declared.draft.PutError.{PutError}
use Rattle.dnsm_put.specs.declared.draft.PutError.TheVariants.{BadSection, BadName, LongData, BadData, TooMany, NoRoom}
use Rattle.dnsm_put.specs.Drafts.{AddsTo}
use Rattle.dnsm_put.specs.Refusals.{order_of}

-- the question that an item is
pub record IsQuestionIn (b : List ℕ) (item : Item) (x : QuestionItem) : Type 0 where
  pub name : NameAt b item.place x.name
  pub rtype : x.rtype ≡ item.rtype
  pub class : x.class ≡ item.class

-- The record that an item is. Its TTL is that of the item, which may differ from that in the message.
pub record IsRecordIn (b : List ℕ) (item : Item) (x : RecordItem) : Type 0 where
  pub owner : NameAt b item.place x.owner
  pub rtype : x.rtype ≡ item.rtype
  pub class : x.class ≡ item.class
  pub ttl : x.ttl ≡ item.ttl
  pub parts : IsDataIn b item x.parts

-- what an item of another message adds to the state
abbrev pub AddsFrom : List ℕ → List ℕ → Draft → Draft → List ℕ → Item → Type 0
AddsFrom out out' d e b item = AddsTo item.section (IsQuestionIn b item) (IsRecordIn b item) out out' d e

-- The item is a question, or a record.
pub record IsItemIn (b : List ℕ) (item : Item) : Type 0 where
  pub question : item.section ≡ 0 → (x : QuestionItem) × IsQuestion x × IsQuestionIn b item x
  pub record_of : item.section ≢ 0 → (x : RecordItem) × IsRecord x × IsRecordIn b item x

-- the numbers of an item fit their fields
pub record HasNumbers (item : Item) : Type 0 where
  pub rtype : item.rtype < 2 ^ 16
  pub class : item.class < 2 ^ 16
  pub ttl : item.ttl < 2 ^ 32

-- the item as one of the caller's own, with these octets as its name
pub record IsCopyWith (item : Item) (octets : List ℕ) (copy : PutItem) : Type 0 where
  pub name : copy.name.now ≡ octets
  pub rtype : copy.rtype ≡ item.rtype
  pub class : copy.class ≡ item.class
  pub ttl : copy.ttl ≡ item.ttl
  pub section : copy.section ≡ item.section

-- The item, with its names uncompressed, takes this number of octets.
pub data TakesIn (b : List ℕ) (item : Item) : ℕ → Type 0 where
  question : {name : Labels} → item.section ≡ 0 → NameAt b item.place name → TakesIn b item (length (uncompressed name) + 4)
  record_of : {name : Labels} {parts : List Part} → item.section ≢ 0 → NameAt b item.place name → IsDataIn b item parts → TakesIn b item (length (uncompressed name) + 10 + parts_size parts)

-- The error is a reason not to put the item at the end of the draft, in a buffer of n octets. There is no room if the item, with its names uncompressed, and
-- the reserved octets would pass the end of the buffer or the limit, or if the draft has no header section.
abbrev pub IsDueFrom : Draft → ℕ → List ℕ → Item → PutError → Type 0
IsDueFrom d n b item BadSection = (3 < item.section) ⊎ (item.section < d.section)
IsDueFrom d n b item BadName = (f : Fault) × FaultAt b item.place f
IsDueFrom d n b item LongData = ⊥
IsDueFrom d n b item BadData = (item.section ≢ 0) × ((parts : List Part) → IsDataIn b item parts → ⊥)
IsDueFrom d n b item TooMany = get_or d.counts item.section 0 ≡ 65535
IsDueFrom d n b item NoRoom = header_size ≤ d.len → (size : ℕ) × TakesIn b item size × (min d.limit n < d.len + size + d.reserved)

-- The error is the first reason that applies.
pub record IsRefusedFrom (d : Draft) (n : ℕ) (b : List ℕ) (item : Item) (error : PutError) : Type 0 where
  pub due : IsDueFrom d n b item error
  pub first : (other : PutError) → order_of other < order_of error → IsDueFrom d n b item other → ⊥
