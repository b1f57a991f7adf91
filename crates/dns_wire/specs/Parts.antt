-- What RDATA consists of, how it is written, and where it is encoded. RFC 1035 sections 3.3 and 4.1.4.
use Rattle.std.specs.Prelude.{◌≡◌, ℕ, ◌+◌, Bool, List, [], ◌∷◌, length, take, slice_range, ◌<◌, Ok}
use Rattle.dns_name.specs.Names.{Labels, IsName, uncompressed, NameAt, NameEndsAt, head_at, pointer_end}
use Rattle.dns_name.specs.declared.head.Head.TheVariants.{Root, Label, Pointer}
use Rattle.dns_wire.specs.Encoders.{Rule, Encoder, encode_octets, both, encode_name}

-- A part of RDATA: octets, a name that may be compressed, or a name that is never compressed (RFC 3597 section 4).
-- The flag of the last says whether its canonical form is lowercased (RFC 4034 section 6.2).
pub data Part : Type 0 where
  Octets : List ℕ → Part
  CompressibleName : Labels → Part
  UncompressedName : Bool → Labels → Part

-- The encoding of a part.
abbrev pub encode_part : Rule → Part → Encoder
encode_part rule (Octets octets) = encode_octets octets
encode_part rule (CompressibleName name) = encode_name rule name
encode_part rule (UncompressedName lowercased name) = encode_octets (uncompressed name)

-- The encoding of parts, in order.
unfoldable pub encode_parts : Rule → List Part → Encoder
encode_parts rule [] = encode_octets []
encode_parts rule (part ∷ parts) = both (encode_part rule part) (encode_parts rule parts)

-- The octets that a part takes uncompressed.
abbrev pub part_size : Part → ℕ
part_size (Octets octets) = length octets
part_size (CompressibleName name) = length (uncompressed name)
part_size (UncompressedName lowercased name) = length (uncompressed name)

-- The octets that parts take uncompressed.
abbrev pub parts_size : List Part → ℕ
parts_size [] = 0
parts_size (part ∷ parts) = part_size part + parts_size parts

-- The parts are encoded in order from offset p to `end`: octets as they are, and names in the octets before `end`. A name that is never compressed ends after all its octets, so it has no pointer.
abbrev pub PartsAt : List ℕ → ℕ → ℕ → List Part → Type 0
PartsAt b end p [] = p ≡ end
PartsAt b end p (Octets octets ∷ parts) = (slice_range b p (p + length octets) ≡ octets) × PartsAt b end (p + length octets) parts
PartsAt b end p (CompressibleName name ∷ parts) = (r : ℕ) × NameAt (take end b) p name × NameEndsAt (take end b) p r × PartsAt b end r parts
PartsAt b end p (UncompressedName lowercased name ∷ parts) =
    (r : ℕ) × NameAt (take end b) p name × NameEndsAt (take end b) p r × PartsAt b end r parts × (r ≡ p + length (uncompressed name))

-- The names among the parts are names.
abbrev pub AreParts : List Part → Type 0
AreParts [] = Unit {0}
AreParts (Octets octets ∷ parts) = AreParts parts
AreParts (CompressibleName name ∷ parts) = IsName name × AreParts parts
AreParts (UncompressedName lowercased name ∷ parts) = IsName name × AreParts parts

-- Pointers that lead back to labels. RFC 1035 section 4.1.4.

-- From offset p to q there are labels, then a zero octet, or a pointer to a label at an earlier offset below 16,384.
pub data WellPointed (b : List ℕ) (q : ℕ) : ℕ → Type 0 where
  root : {p : ℕ} → head_at b p ≡ Ok Root → q ≡ p + 1 → WellPointed b q p
  label : {p n : ℕ} → head_at b p ≡ Ok (Label n) → WellPointed b q (p + 1 + n) → WellPointed b q p
  pointer : {p t n : ℕ} → head_at b p ≡ Ok (Pointer t) → t < p → t < pointer_end → head_at b t ≡ Ok (Label n) → q ≡ p + 2 → WellPointed b q p

-- Where parts are encoded, and the labels and pointers of the names among them. RFC 1035 section 4.1.4.

-- The parts take the octets from offset p to `end`, in order. `IsWritten` holds of the offset and the end of each name among them that may be compressed.
abbrev pub PartsFill : (ℕ → ℕ → Type 0) → ℕ → ℕ → List Part → Type 0
PartsFill IsWritten end p [] = p ≡ end
PartsFill IsWritten end p (Octets octets ∷ parts) = PartsFill IsWritten end (p + length octets) parts
PartsFill IsWritten end p (CompressibleName name ∷ parts) = (q : ℕ) × IsWritten p q × PartsFill IsWritten end q parts
PartsFill IsWritten end p (UncompressedName lowercased name ∷ parts) = PartsFill IsWritten end (p + length (uncompressed name)) parts

-- From offset p to q there are labels within pointer range, that is, each begins below offset 16,384. Then follows a zero octet or a pointer.
pub data LabelsInPointerRange (b : List ℕ) (q : ℕ) : ℕ → Type 0 where
  root : {p : ℕ} → head_at b p ≡ Ok Root → q ≡ p + 1 → LabelsInPointerRange b q p
  label : {p n : ℕ} → head_at b p ≡ Ok (Label n) → p < pointer_end → LabelsInPointerRange b q (p + 1 + n) → LabelsInPointerRange b q p
  pointer : {p t : ℕ} → head_at b p ≡ Ok (Pointer t) → q ≡ p + 2 → LabelsInPointerRange b q p

-- Among the parts, every label of a name that may be compressed is within pointer range.
abbrev pub PartsInPointerRange : List ℕ → ℕ → ℕ → List Part → Type 0
PartsInPointerRange b end p parts = PartsFill (λ p q. LabelsInPointerRange b q p) end p parts

-- Among the parts, every pointer of a name that may be compressed leads to a label at an earlier offset below 16,384.
abbrev pub PartsPointed : List ℕ → ℕ → ℕ → List Part → Type 0
PartsPointed b end p parts = PartsFill (λ p q. WellPointed b q p) end p parts
