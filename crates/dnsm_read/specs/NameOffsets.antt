-- The offsets of the names within fields of RDATA. RFC 1035 section 3.3, RFC 4025 section 2.5, RFC 8777 section 4.2.4, RFC 8005 section 5.
--
-- `b` is the octets that are seen: those of the message up to the end of the RDATA.
use Rattle.std.specs.Prelude.{◌≡◌, ◌+◌, ◌*◌, ◌%◌, ◌++◌, ◌==◌, ◌≤◌, ℕ, if◌then◌else◌, List, [], ◌∷◌, length, slice_get, Option, Some, None, Result, Ok, Err}
use Rattle.dns_name.specs.Names.{NameEndsAt}
use Rattle.dns_name.specs.Unique.{EncodedName}
use Rattle.dns_wire.specs.Parts.{Part}
use Rattle.dns_wire.specs.Parts.Part.{Octets, CompressibleName, UncompressedName}
use Rattle.fields_table.specs.FieldParts.{NamedPart}
use Rattle.fields_table.specs.declared.kind.Kind.{Kind}
use Rattle.fields_table.specs.declared.kind.Kind.TheVariants.{GatewayAndKey, HostIdentity, Relay}
use Rattle.dnsm_read.specs.FieldOffsets.{PartAt}

-- A gateway of type 3 is a name. It follows the type and an algorithm, which are at offset p.
abbrev pub gateway_offset : List ℕ → ℕ → Option ℕ
gateway_offset (gateway_type ∷ algorithm ∷ octets) p = if gateway_type == 3 then Some (p + 2) else None
gateway_offset octets p = None

-- A relay of type 3 is a name. It follows an octet with a bit and the type, which is at offset p.
abbrev pub relay_offset : List ℕ → ℕ → Option ℕ
relay_offset (first ∷ octets) p = if first % 128 == 3 then Some (p + 1) else None
relay_offset octets p = None

-- the only name is at this offset, if there is one
abbrev pub OnlyName : List ℕ → Option ℕ → List ℕ → Type 0
OnlyName b None offsets = offsets ≡ []
OnlyName b (Some p) offsets = EncodedName b p × (offsets ≡ p ∷ [])

-- names are encoded from p to q, one after the other, at these offsets
abbrev pub NamesAt : List ℕ → ℕ → ℕ → List ℕ → Type 0
NamesAt b p q [] = q ≡ p
NamesAt b p q (offset ∷ offsets) = (offset ≡ p) × EncodedName b p × (r : ℕ) × NameEndsAt b p r × NamesAt b r q offsets

-- The rendezvous servers of a host identity at offset p: names up to its end. They follow the sizes of a tag and of a key, with an algorithm between them, the tag and the key.
abbrev pub ServersAt : List ℕ → List ℕ → ℕ → List ℕ → Type 0
ServersAt b (tag_size ∷ algorithm ∷ high ∷ low ∷ octets) p offsets = NamesAt b (p + 4 + (tag_size + (high * 256 + low))) (p + 4 + length octets) offsets
ServersAt b octets p offsets = offsets ≡ []

-- the names within octets of this kind at offset p
abbrev pub NamesInOctets : List ℕ → Kind → List ℕ → ℕ → List ℕ → Type 0
NamesInOctets b GatewayAndKey octets p offsets = OnlyName b (gateway_offset octets p) offsets
NamesInOctets b Relay octets p offsets = OnlyName b (relay_offset octets p) offsets
NamesInOctets b HostIdentity octets p offsets = ServersAt b octets p offsets
NamesInOctets b kind octets p offsets = offsets ≡ []

-- the names within a field of this kind at offset p: itself, or those within its octets
abbrev pub NamesWithin : List ℕ → Kind → Part → ℕ → List ℕ → Type 0
NamesWithin b kind (Octets octets) p offsets = NamesInOctets b kind octets p offsets
NamesWithin b kind (CompressibleName name) p offsets = OnlyName b (Some p) offsets
NamesWithin b kind (UncompressedName lowercased name) p offsets = OnlyName b (Some p) offsets

-- the fields are encoded from p on, in order, and all names within them are at these offsets
abbrev pub NamesFrom : List ℕ → List NamedPart → ℕ → List ℕ → Type 0
NamesFrom b [] p offsets = offsets ≡ []
NamesFrom b (field ∷ fields) p offsets =
    (r : ℕ) × PartAt b field.part p r × (own : List ℕ) × NamesWithin b field.kind field.part p own
    × (later : List ℕ) × NamesFrom b fields r later × (offsets ≡ own ++ later)

-- among all names of fields that are encoded from p on, the one with this index is at q
abbrev pub IsNameAmong : List ℕ → ℕ → List NamedPart → ℕ → ℕ → Type 0
IsNameAmong b p fields index q = (offsets : List ℕ) × NamesFrom b fields p offsets × (slice_get offsets index ≡ Some q)

-- fields that are encoded from p on have at most `index` names
abbrev pub LacksNameAmong : List ℕ → ℕ → List NamedPart → ℕ → Type 0
LacksNameAmong b p fields index = (offsets : List ℕ) × NamesFrom b fields p offsets × (length offsets ≤ index)

-- a search by index: the offset with this index; or the index less their count, if there are not so many
abbrev pub Finds : List ℕ → ℕ → Result ℕ ℕ → Type 0
Finds offsets index (Ok offset) = slice_get offsets index ≡ Some offset
Finds offsets index (Err left) = length offsets + left ≡ index

-- such a search among the names within a field
abbrev pub FindsWithin : List ℕ → Kind → Part → ℕ → ℕ → Result ℕ ℕ → Type 0
FindsWithin b kind part p index result = (offsets : List ℕ) × NamesWithin b kind part p offsets × Finds offsets index result
