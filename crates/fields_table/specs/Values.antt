-- The values of fields.
use Rattle.std.specs.Prelude.{◌≡◌, ℕ, ◌+◌, ◌*◌, List, [], ◌∷◌, drop}
use Rattle.dns_name.specs.Names.{Labels}
use Rattle.dns_name.specs.ParsedName.{labels}
use Rattle.dns_wire.specs.Parts.{Part, part_size}
use Rattle.dns_wire.specs.Parts.Part.{Octets as OctetsPart, CompressibleName, UncompressedName}
use Rattle.fields_table.specs.declared.kind.Kind.{Kind}
use Rattle.fields_table.specs.declared.kind.Kind.TheVariants as kinds
use Rattle.fields_table.specs.declared.shape.Shape.{Shape}
use Rattle.fields_table.specs.declared.shape.Shape.TheVariants as shapes
use Rattle.fields_table.specs.declared.value.Value.{Value}
use Rattle.fields_table.specs.declared.value.Value.TheVariants as values

-- the value of a field: a number, a record type, an address, a name, a string, or octets
pub data FieldValue : Type 0 where
  Number : ℕ → FieldValue
  RecordType : ℕ → FieldValue
  Ipv4 : List ℕ → FieldValue
  Ipv6 : List ℕ → FieldValue
  Name : Labels → FieldValue
  String : List ℕ → FieldValue
  Sized : List ℕ → FieldValue
  Octets : List ℕ → FieldValue

-- a big-endian number, after octets that are the number `high`
abbrev pub number_after : ℕ → List ℕ → ℕ
number_after high [] = high
number_after high (octet ∷ octets) = number_after (high * 256 + octet) octets

-- the value of octets that are a field of this kind: strings and sized octets come after their length
abbrev pub octets_value : Kind → List ℕ → FieldValue
octets_value kinds.Number8 octets = Number (number_after 0 octets)
octets_value kinds.Number16 octets = Number (number_after 0 octets)
octets_value kinds.Number32 octets = Number (number_after 0 octets)
octets_value kinds.Number48 octets = Number (number_after 0 octets)
octets_value kinds.Number64 octets = Number (number_after 0 octets)
octets_value kinds.SyncScheme octets = Number (number_after 0 octets)
octets_value kinds.Seconds octets = Number (number_after 0 octets)
octets_value kinds.Time octets = Number (number_after 0 octets)
octets_value kinds.RecordType octets = RecordType (number_after 0 octets)
octets_value kinds.Ipv4 octets = Ipv4 octets
octets_value kinds.Ipv6 octets = Ipv6 octets
octets_value kinds.CharacterString octets = String (drop 1 octets)
octets_value kinds.Tag octets = String (drop 1 octets)
octets_value kinds.Salt octets = String (drop 1 octets)
octets_value kinds.Hash octets = String (drop 1 octets)
octets_value kinds.SizedOctets octets = Sized (drop 2 octets)
octets_value kind octets = Octets octets

-- the value of a part that is a field of this kind
abbrev pub part_value : Kind → Part → FieldValue
part_value kind (OctetsPart octets) = octets_value kind octets
part_value kind (CompressibleName name) = Name name
part_value kind (UncompressedName lowercased name) = Name name

-- what a view of a value shows
abbrev pub value_shown : Value → FieldValue
value_shown (values.Number n) = Number n
value_shown (values.RecordType rtype) = RecordType rtype
value_shown (values.Ipv4 octets) = Ipv4 octets.now
value_shown (values.Ipv6 octets) = Ipv6 octets.now
value_shown (values.Name name) = Name (labels name)
value_shown (values.String octets) = String octets.now
value_shown (values.Sized octets) = Sized octets.now
value_shown (values.Octets octets) = Octets octets.now

-- the size of a part of this shape: its fixed size, or else the size that it has
abbrev pub fixed_size : Shape → ℕ → ℕ
fixed_size (shapes.Octets n) size = n
fixed_size _ size = size

-- a part of a shape with a fixed size has that size
abbrev pub HasSize : Shape → Part → Type 0
HasSize shape part = part_size part ≡ fixed_size shape (part_size part)
