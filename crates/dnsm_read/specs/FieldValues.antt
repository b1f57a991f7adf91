-- What C gets of a field of RDATA.
use Rattle.std.specs.Prelude.{◌≡◌, ◌≤◌, ◌+◌, ℕ, List, length, slice_range}
use Rattle.dns_name.specs.Names.{NameAt}
use Rattle.dns_wire.specs.Parts.{Part}
use Rattle.fields_table.specs.FieldParts.{NamedPart}
use Rattle.fields_table.specs.Values.{FieldValue, part_value}
use Rattle.fields_table.specs.Values.FieldValue.{Number, RecordType, Ipv4, Ipv6, Name, String, Sized, Octets}
use Rattle.dnsm_read.specs.DataFields.{IsDataIn, data_fields, up_to_data_end}
use Rattle.dnsm_read.specs.FieldOffsets.{IsFieldAt}
use Rattle.dnsm_read.specs.declared.next_field.DataField.{DataField}
use Rattle.dnsm_read.specs.declared.walk.Item.{Item}

-- the octets at a field's offset, which are within the octets that are seen
pub record HasOctets (b : List ℕ) (field : DataField) (octets : List ℕ) : Type 0 where
  pub within : field.place + field.len ≤ length b
  pub same : slice_range b field.place (field.place + field.len) ≡ octets

-- What C gets of a value: the kind, and a number, the offset of a name, or the offset and the length of octets.
abbrev pub Shows : List ℕ → DataField → FieldValue → Type 0
Shows b field (Number n) = (field.kind ≡ 0) × (field.number ≡ n)
Shows b field (RecordType n) = (field.kind ≡ 1) × (field.number ≡ n)
Shows b field (Ipv4 octets) = (field.kind ≡ 2) × HasOctets b field octets
Shows b field (Ipv6 octets) = (field.kind ≡ 3) × HasOctets b field octets
Shows b field (Name name) = (field.kind ≡ 4) × NameAt b field.place name
Shows b field (String octets) = (field.kind ≡ 5) × HasOctets b field octets
Shows b field (Sized octets) = (field.kind ≡ 6) × HasOctets b field octets
Shows b field (Octets octets) = (field.kind ≡ 7) × HasOctets b field octets

-- Where C gets a field that is encoded from p to q: a name begins at p, octets end at q. Members that don't belong to the kind are 0.
abbrev pub IsPlaced : DataField → FieldValue → ℕ → ℕ → Type 0
IsPlaced field (Number n) p q = (field.place ≡ 0) × (field.len ≡ 0)
IsPlaced field (RecordType n) p q = (field.place ≡ 0) × (field.len ≡ 0)
IsPlaced field (Name name) p q = (field.place ≡ p) × (field.len ≡ 0) × (field.number ≡ 0)
IsPlaced field _ p q = (field.place + field.len ≡ q) × (field.number ≡ 0)

-- C gets the field with this index of an item's RDATA.
pub record IsDataField (b : List ℕ) (item : Item) (index : ℕ) (field : DataField) : Type 0 where
  pub parts : List Part
  pub there : IsDataIn b item parts
  pub before : List NamedPart
  pub named : NamedPart
  pub start : ℕ
  pub end : ℕ
  pub place : IsFieldAt (up_to_data_end b item) item.«data» (data_fields item parts) before named start end
  pub index_of : length before ≡ index
  pub value : Shows (up_to_data_end b item) field (part_value named.kind named.part)
  pub placed : IsPlaced field (part_value named.kind named.part) start end

-- an item's RDATA has at most `index` fields
abbrev pub HasEnded : List ℕ → Item → ℕ → Type 0
HasEnded b item index = (parts : List Part) × IsDataIn b item parts × (length (data_fields item parts) ≤ index)
