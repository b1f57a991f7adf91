-- The first part of RDATA, and the other parts.
use Rattle.std.proofs.Common.{◌≡◌, ◌⊎◌, ℕ, ◌<◌, ◌^◌, Bool, false, List, [], ◌∷◌, length, refl, ap, subst, arith, inl, inr, length-append}
use Rattle.hex.specs.Hex.{IsBytes}
use Rattle.dns_data.specs.Layout.{IsLaidOut, Layout}
use Rattle.dns_wire.specs.Parts.{AreParts, Part}
use Rattle.dns_wire.specs.Parts.Part.{Octets as OctetsPart, CompressibleName, UncompressedName as UncompressedPart}
use Rattle.fields_table.specs.DataOrders.{octets_of_parts, part_octets}
use Rattle.fields_table.specs.Layouts.{field_layout, takes_rest}
use Rattle.fields_table.specs.declared.shape.Shape.{Shape}
use Rattle.fields_table.specs.declared.shape.Shape.TheVariants.{Octets, Counted, Sized, Name, UncompressedName, Rest}
use Rattle.fields_records.specs.FieldLaws.{IsPartOf}
use Rattle.fields_text.proofs.theory.ByteLemmas.{bytes_back, bytes_front}

-- Parts of this layout, of which the octets are octets, and fewer than 2^16.
abbrev pub ArePartsOf : Layout → List Part → Type 0
ArePartsOf layout parts = IsLaidOut layout parts × AreParts parts × IsBytes (octets_of_parts parts) × (length (octets_of_parts parts) < 2 ^ 16)

-- The part of a field of this shape, and the parts of the other fields; none if the field takes all octets that are left.
pub record FirstPart (shape : Shape) (others : Layout) (parts : List Part) : Type 0 where
  pub part : Part
  pub left : List Part
  pub are : parts ≡ part ∷ left
  pub is_part : IsPartOf shape part
  pub are_left : (left ≡ []) ⊎ (ArePartsOf others left × (takes_rest shape ≡ false))

-- octets, and other parts
module _ (shape : Shape) (others : Layout) (xs : List ℕ) (parts : List Part) (bytes : IsBytes (octets_of_parts (OctetsPart xs ∷ parts)))
    (small : length (octets_of_parts (OctetsPart xs ∷ parts)) < 2 ^ 16) (fixed : takes_rest shape ≡ false) where
  after_octets : IsPartOf shape (OctetsPart xs) → IsLaidOut others parts → AreParts parts → FirstPart shape others (OctetsPart xs ∷ parts)
  after_octets is laid names = record {
    part = OctetsPart xs;
    left = parts;
    are = refl;
    is_part = is;
    are_left = inr ((laid, names, bytes_back xs (octets_of_parts parts) bytes, omega (arith, small, length-append xs (octets_of_parts parts))), fixed);
  }

  few : length xs < 2 ^ 16
  few = omega (arith, small, length-append xs (octets_of_parts parts))

-- a name, and other parts
after_name : (shape : Shape) (others : Layout) (part : Part) (parts : List Part) → takes_rest shape ≡ false → IsPartOf shape part → IsLaidOut others parts → AreParts parts
    → IsBytes (octets_of_parts (part ∷ parts)) → length (octets_of_parts (part ∷ parts)) < 2 ^ 16 → FirstPart shape others (part ∷ parts)
after_name shape others part parts fixed is laid names bytes small = record {
  part = part;
  left = parts;
  are = refl;
  is_part = is;
  are_left =
      inr ((laid, names, bytes_back (part_octets part) (octets_of_parts parts) bytes, omega (arith, small, length-append (part_octets part) (octets_of_parts parts))), fixed);
}

-- The parts of a field and of others begin with the part of the field.
pub first_part : (s : Shape) (test : List ℕ → Bool) (others : Layout) (parts : List Part) → ArePartsOf (field_layout s test others) parts → FirstPart s others parts
first_part Rest test others parts (h, names, bytes, small) =
    let own = subst (λ (ps : List Part). IsBytes (octets_of_parts ps)) h.1 bytes in
    let size = ap (λ (ps : List Part). length (octets_of_parts ps)) h.1 in
    record {
      part = OctetsPart h.0;
      left = [];
      are = h.1;
      is_part = (bytes_front h.0 [] own, omega (arith, size, small, length-append {A = ℕ} h.0 []));
      are_left = inl refl;
    }
first_part (Octets n) test others [] (h, names, bytes, small) = absurd h
first_part (Octets n) test others (OctetsPart xs ∷ ps) (h, names, bytes, small) =
    after_octets (Octets n) others xs ps bytes small refl (bytes_front xs (octets_of_parts ps) bytes, h.0) h.1 names
first_part (Octets n) test others (CompressibleName x ∷ ps) (h, names, bytes, small) = absurd h
first_part (Octets n) test others (UncompressedPart a x ∷ ps) (h, names, bytes, small) = absurd h
first_part Counted test others [] (h, names, bytes, small) = absurd h
first_part Counted test others (OctetsPart xs ∷ ps) (h, names, bytes, small) =
    after_octets Counted others xs ps bytes small refl (bytes_front xs (octets_of_parts ps) bytes, few Counted others xs ps bytes small refl) h.1 names
first_part Counted test others (CompressibleName x ∷ ps) (h, names, bytes, small) = absurd h
first_part Counted test others (UncompressedPart a x ∷ ps) (h, names, bytes, small) = absurd h
first_part Sized test others [] (h, names, bytes, small) = absurd h
first_part Sized test others (OctetsPart xs ∷ ps) (h, names, bytes, small) =
    let short = few Sized others xs ps bytes small refl in
    after_octets Sized others xs ps bytes small refl (bytes_front xs (octets_of_parts ps) bytes, omega (arith, short)) h.1 names
first_part Sized test others (CompressibleName x ∷ ps) (h, names, bytes, small) = absurd h
first_part Sized test others (UncompressedPart a x ∷ ps) (h, names, bytes, small) = absurd h
first_part Name test others [] (h, names, bytes, small) = absurd h
first_part Name test others (OctetsPart xs ∷ ps) (h, names, bytes, small) = absurd h
first_part Name test others (CompressibleName x ∷ ps) (h, names, bytes, small) = after_name Name others (CompressibleName x) ps refl names.0 h names.1 bytes small
first_part Name test others (UncompressedPart a x ∷ ps) (h, names, bytes, small) = absurd h
first_part (UncompressedName pointers lowers) test others [] (h, names, bytes, small) = absurd h
first_part (UncompressedName pointers lowers) test others (OctetsPart xs ∷ ps) (h, names, bytes, small) = absurd h
first_part (UncompressedName pointers lowers) test others (CompressibleName x ∷ ps) (h, names, bytes, small) = absurd h
first_part (UncompressedName pointers lowers) test others (UncompressedPart a x ∷ ps) (h, names, bytes, small) =
    after_name (UncompressedName pointers lowers) others (UncompressedPart a x) ps refl names.0 h.1 names.1 bytes small
