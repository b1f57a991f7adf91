-- Where the fields of RDATA are encoded. RFC 1035 sections 3.3 and 4.1.4.
--
-- `b` is the octets that are seen: those of the message up to the end of the RDATA.
use Rattle.std.specs.Prelude.{◌≡◌, ◌+◌, ◌++◌, ◌≤◌, ℕ, List, [], ◌∷◌, length, slice_range}
use Rattle.dns_name.specs.Names.{NameAt, NameEndsAt}
use Rattle.dns_wire.specs.Parts.{Part}
use Rattle.dns_wire.specs.Parts.Part.{Octets, CompressibleName, UncompressedName}
use Rattle.fields_table.specs.FieldParts.{NamedPart}

-- the part is encoded from p to q: octets, or a name, whose encoding a pointer may end
abbrev pub PartAt : List ℕ → Part → ℕ → ℕ → Type 0
PartAt b (Octets octets) p q = (q ≡ p + length octets) × (q ≤ length b) × (slice_range b p q ≡ octets)
PartAt b (CompressibleName name) p q = NameAt b p name × NameEndsAt b p q
PartAt b (UncompressedName lowercased name) p q = NameAt b p name × NameEndsAt b p q

-- the fields are encoded from p to q, in order
abbrev pub FieldsAt : List ℕ → List NamedPart → ℕ → ℕ → Type 0
FieldsAt b [] p q = q ≡ p
FieldsAt b (field ∷ fields) p q = (r : ℕ) × PartAt b field.part p r × FieldsAt b fields r q

-- Among fields that are encoded from p on, this field follows the fields `before`, and is encoded from q to r.
pub record IsFieldAt (b : List ℕ) (p : ℕ) (fields before : List NamedPart) (field : NamedPart) (q r : ℕ) : Type 0 where
  pub after : List NamedPart
  pub all : fields ≡ before ++ field ∷ after
  pub earlier : FieldsAt b before p q
  pub part : PartAt b field.part q r
