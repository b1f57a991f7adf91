-- What the items of a caller mean, and where they are encoded. RFC 1035 sections 4.1.2 and 4.1.3.
use Rattle.std.specs.Prelude.{◌≡◌, ◌≢◌, ℕ, ◌+◌, List, [], ◌∷◌, ◌++◌, length, ◌==◌, if◌then◌else◌}
use Rattle.std.specs.Int.{to_be_bytes, w16, w32}
use Rattle.dns_name.specs.Names.{uncompressed}
use Rattle.dns_code.specs.HeaderSection.{header_size}
use Rattle.dns_wire.specs.Parts.{Part, PartsPointed}
use Rattle.dns_wire.specs.TargetLaws.{Agree}
use Rattle.dns_item.specs.Questions.{QuestionItem, IsQuestion, ReadsQuestion}
use Rattle.dns_item.specs.Items.{RecordItem, IsRecord, ReadsRecordItem}
use Rattle.dns_build.specs.MessageOf.{question_parts, record_parts}
use Rattle.dnsm_put.specs.declared.draft.PutItem.{PutItem}
use Rattle.dnsm_put.specs.Rdata.{AreDataOf, layout_of}

-- the question that an item means
pub record IsQuestionOf (item : PutItem) (x : QuestionItem) : Type 0 where
  pub is_question : IsQuestion x
  pub name : item.name.now ≡ uncompressed x.name
  pub rtype : x.rtype ≡ item.rtype
  pub class : x.class ≡ item.class

-- the record that an item means
pub record IsRecordOf (item : PutItem) (x : RecordItem) : Type 0 where
  pub is_record : IsRecord x
  pub owner : item.name.now ≡ uncompressed x.owner
  pub rtype : x.rtype ≡ item.rtype
  pub class : x.class ≡ item.class
  pub ttl : x.ttl ≡ item.ttl
  pub parts : AreDataOf (layout_of item) item.rdata.now x.parts

-- the record with the numbers and the name of an item, and with these fields as its RDATA
pub record IsRecordWith (item : PutItem) (fields : List Part) (x : RecordItem) : Type 0 where
  pub is_record : IsRecord x
  pub owner : item.name.now ≡ uncompressed x.owner
  pub rtype : x.rtype ≡ item.rtype
  pub class : x.class ≡ item.class
  pub ttl : x.ttl ≡ item.ttl
  pub parts : x.parts ≡ fields

-- the ten octets after the owner of a record, with RDLENGTH zero
abbrev pub head_octets : PutItem → List ℕ
head_octets item = to_be_bytes w16 item.rtype ++ to_be_bytes w16 item.class ++ to_be_bytes w32 item.ttl ++ (0 ∷ 0 ∷ [])

-- The item means a question, or a record.
pub record Means (item : PutItem) : Type 0 where
  pub question : item.section ≡ 0 → (x : QuestionItem) × IsQuestionOf item x
  pub record_of : item.section ≢ 0 → (x : RecordItem) × IsRecordOf item x

-- the octets that an item takes with its names uncompressed
abbrev pub item_size : PutItem → ℕ
item_size item = if item.section == 0 then length item.name.now + 4 else length item.name.now + 10 + length item.rdata.now

-- The question is encoded from p to q, and a pointer of its name leads to an earlier label below offset 16,384.
pub record QuestionFrom (b : List ℕ) (p q : ℕ) (x : QuestionItem) : Type 0 where
  pub reads : ReadsQuestion b p q x
  pub pointed : PartsPointed b q p (question_parts x)

-- The record is encoded from p to q, and each pointer of its names leads to an earlier label below offset 16,384.
pub record RecordFrom (b : List ℕ) (p q : ℕ) (x : RecordItem) : Type 0 where
  pub reads : ReadsRecordItem b p q x
  pub pointed : PartsPointed b q p (record_parts x)

-- The question is encoded so in all octets that are the same from the end of the header section to q.
abbrev pub HoldsQuestion : List ℕ → ℕ → ℕ → QuestionItem → Type 0
HoldsQuestion b p q x = (c : List ℕ) → Agree b c header_size q → QuestionFrom c p q x

-- The record is encoded so in all octets that are the same from the end of the header section to q.
abbrev pub HoldsRecord : List ℕ → ℕ → ℕ → RecordItem → Type 0
HoldsRecord b p q x = (c : List ℕ) → Agree b c header_size q → RecordFrom c p q x
