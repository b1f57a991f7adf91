-- A record as a value, and its encoding. RFC 1035 section 4.1.3.
use Rattle.std.specs.Prelude.{ℕ, ◌<◌, ◌≤◌, ◌^◌, List, ◌++◌, ◌≡◌, ◌+◌, length}
use Rattle.std.specs.Int.{to_be_bytes, w16, w32}
use Rattle.dns_name.specs.Names.{Labels, IsName, Fault, NameAt, NameEndsAt, ReadsOrFaults, EndsOrFaults}
use Rattle.dns_name.specs.Parsers.{number_at}
use Rattle.dns_wire.specs.Parts.{Part, AreParts, encode_parts, parts_size, PartsAt}
use Rattle.dns_wire.specs.Encoders.{Rule, Encoder, encode_octets, both, with_length, encode_name, IsGrowing}
use Rattle.dns_wire.specs.Targets.{Written, IsTarget, append}
use Rattle.dns_item.specs.AfterNames.{SkipsFields, FieldsFaultAt, FieldsSkipFaultAt}

-- a record, with its RDATA as a list of parts
pub record RecordItem : Type 0 where
  pub owner : Labels
  pub rtype : ℕ
  pub class : ℕ
  pub ttl : ℕ
  pub parts : List Part

-- a record that a message can hold: the numbers fit their fields, and the uncompressed RDATA has at most 65,535 octets
pub record IsRecord (x : RecordItem) : Type 0 where
  pub owner : IsName x.owner
  pub rtype : x.rtype < 2 ^ 16
  pub class : x.class < 2 ^ 16
  pub ttl : x.ttl < 2 ^ 32
  pub parts : AreParts x.parts
  pub short : parts_size x.parts ≤ 65535

-- type, class and TTL, big-endian; RDLENGTH follows them
abbrev pub record_fields : RecordItem → List ℕ
record_fields x = to_be_bytes w16 x.rtype ++ to_be_bytes w16 x.class ++ to_be_bytes w32 x.ttl

-- the encoding of a record: its owner, its fields, and its RDATA after RDLENGTH, which is the length of the RDATA as written
unfoldable pub encode_record : Rule → RecordItem → Encoder
encode_record rule x = both (encode_name rule x.owner) (both (encode_octets (record_fields x)) (with_length (encode_parts rule x.parts)))

-- Records in the octets of a message. RFC 1035 section 4.1.3.

-- a record takes the octets from p to q: those of its encoded owner, ten octets of fields, and the RDATA, whose length is the last two of the ten
abbrev pub SkipsRecord : List ℕ → ℕ → ℕ → Type 0
SkipsRecord b = SkipsFields b (λ r. 10 + number_at w16 b (r + 8))

-- the fields of a record's header, RDLENGTH last
pub record HeaderEntry : Type 0 where
  pub owner : Labels
  pub rtype : ℕ
  pub class : ℕ
  pub ttl : ℕ
  pub rdlen : ℕ

-- the record header `x` is encoded from p to q; the RDATA after it needn't be there
pub record ReadsHeader (b : List ℕ) (p q : ℕ) (x : HeaderEntry) : Type 0 where
  pub name_end : ℕ
  pub name_ends : NameEndsAt b p name_end
  pub end : q ≡ name_end + 10
  pub within : q ≤ length b
  pub owner : NameAt b p x.owner
  pub rtype : x.rtype ≡ number_at w16 b name_end
  pub class : x.class ≡ number_at w16 b (name_end + 2)
  pub ttl : x.ttl ≡ number_at w32 b (name_end + 4)
  pub rdlen : x.rdlen ≡ number_at w16 b (name_end + 8)

-- what is read of a record: its fields, and the offsets where its RDATA begins and ends
pub record RecordEntry : Type 0 where
  pub owner : Labels
  pub rtype : ℕ
  pub class : ℕ
  pub ttl : ℕ
  pub rdata_start : ℕ
  pub rdata_end : ℕ

-- a record is encoded from p to q, and `x` is what is read of it
pub record ReadsRecord (b : List ℕ) (p q : ℕ) (x : RecordEntry) : Type 0 where
  pub skips : SkipsRecord b p q
  pub owner : NameAt b p x.owner
  pub rtype : x.rtype ≡ number_at w16 b skips.name_end
  pub class : x.class ≡ number_at w16 b (skips.name_end + 2)
  pub ttl : x.ttl ≡ number_at w32 b (skips.name_end + 4)
  pub rdata_start : x.rdata_start ≡ skips.name_end + 10
  pub rdata_end : x.rdata_end ≡ q

-- Why no record header can be read at an offset: its owner has a fault, or the ten octets after the owner aren't all there.
abbrev pub HeaderFaultAt : List ℕ → ℕ → Fault → Type 0
HeaderFaultAt b = FieldsFaultAt b (λ r. length b < r + 10)

-- after an owner that ends at r, the ten octets of fields or the RDATA aren't all there
pub data LacksRecord (b : List ℕ) (r : ℕ) : Type 0 where
  fields : length b < r + 10 → LacksRecord b r
  rdata : r + 10 ≤ length b → length b < r + 10 + number_at w16 b (r + 8) → LacksRecord b r

-- Why no record can be read at an offset: its owner has a fault, or the octets after the owner aren't all there.
abbrev pub RecordFaultAt : List ℕ → ℕ → Fault → Type 0
RecordFaultAt b = FieldsFaultAt b (LacksRecord b)

-- why no record can be skipped at an offset
abbrev pub RecordSkipFaultAt : List ℕ → ℕ → Fault → Type 0
RecordSkipFaultAt b = FieldsSkipFaultAt b (LacksRecord b)

-- what was read is the record, and its parts fill the RDATA
pub record ReportsRecord (b : List ℕ) (x : RecordEntry) (item : RecordItem) : Type 0 where
  pub owner : x.owner ≡ item.owner
  pub rtype : x.rtype ≡ item.rtype
  pub class : x.class ≡ item.class
  pub ttl : x.ttl ≡ item.ttl
  pub parts : PartsAt b x.rdata_end x.rdata_start item.parts

-- a record with these fields and parts is encoded from p to q
pub record ReadsRecordItem (b : List ℕ) (p q : ℕ) (item : RecordItem) : Type 0 where
  pub entry : RecordEntry
  pub reads : ReadsRecord b p q entry
  pub reports : ReportsRecord b entry item

-- Theorems over records in all octets, and over all records that are written. RFC 1035 section 4.1.3.

-- at each offset either exactly one record can be read, or there is exactly one fault
abbrev pub RecordOrFault : Type 0
RecordOrFault = (b : List ℕ) → ReadsOrFaults (ReadsRecord b) (RecordFaultAt b)

-- the same of record headers
abbrev pub HeaderOrFault : Type 0
HeaderOrFault = (b : List ℕ) → ReadsOrFaults (ReadsHeader b) (HeaderFaultAt b)

-- at each offset either a record can be skipped to exactly one end, or there is exactly one fault
abbrev pub RecordEndOrFault : Type 0
RecordEndOrFault = (b : List ℕ) → EndsOrFaults (SkipsRecord b) (RecordSkipFaultAt b)

-- a record that can be read can be skipped, with the same end; one that can't be skipped can't be read
pub record RecordSkipAgrees : Type 0 where
  pub ends_alike : (b : List ℕ) (p q : ℕ) (x : RecordEntry) → ReadsRecord b p q x → SkipsRecord b p q
  pub fails_alike : (b : List ℕ) (p q : ℕ) (x : RecordEntry) (f : Fault) → RecordSkipFaultAt b p f → ReadsRecord b p q x → ⊥

-- writing a record adds only suffixes of its own names to the compression table, under each rule
abbrev pub RecordsGrow : Type 0
RecordsGrow = (rule : Rule) (x : RecordItem) → IsGrowing (encode_record rule x)

-- a record that is written reads back at its offset, with its parts filling its RDATA, and every suffix in the table is still at its offset
abbrev pub RecordsReadBack : Type 0
RecordsReadBack = (rule : Rule) (t : Written) (x : RecordItem) → IsRecord x → IsTarget t
    → let u = append (encode_record rule x) t in ReadsRecordItem u.octets (length t.octets) (length u.octets) x × IsTarget u
