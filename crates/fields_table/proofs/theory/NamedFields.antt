-- The parts of the named fields of RDATA are its parts.
use Rattle.std.proofs.Common.{◌≡◌, ℕ, ◌+◌, Bool, List, [], ◌∷◌, ap, sym, ◌∙◌}
use Rattle.std.specs.Prelude.{map}
use Rattle.dns_name.specs.Parsers.{seen, offset}
use Rattle.dns_wire.specs.Parts.{Part}
use Rattle.dns_wire.specs.Parts.Part.{Octets as OctetsPart, CompressibleName, UncompressedName as UncompressedPart}
use Rattle.dns_data.specs.Layout.{Layout, string_size, octets_size, DataAt}
use Rattle.fields_table.specs.declared.field_data.FieldData.{FieldData}
use Rattle.fields_table.specs.declared.fields.Fields.{Fields}
use Rattle.fields_table.specs.declared.shape.Shape.{Shape}
use Rattle.fields_table.specs.declared.shape.Shape.TheVariants.{Octets, Counted, Sized, Name, UncompressedName, Rest}
use Rattle.fields_table.specs.Accepts.{accepts}
use Rattle.fields_table.specs.Data.{rtype_of, parts_of}
use Rattle.fields_table.specs.EncodedData.{data_is_there}
use Rattle.fields_table.specs.FieldOrders.{parts_left}
use Rattle.fields_table.specs.FieldParts.{NamedPart, named_parts, fields_left}
use Rattle.fields_table.specs.Layouts.{field_layout, layout_of}
use Rattle.fields_table.specs.Shapes.{shape_of}
use Rattle.fields_table.specs.Table.{Definition, kinds_in, definitions_of}
use Rattle.fields_table.proofs.Iterated.{none_named}

-- the parts of named fields
abbrev parts_in : List NamedPart → List Part
parts_in fields = map (λ named. named.part) fields

module _ (b : List ℕ) where
  -- the fields of this layout have as many parts
  abbrev AreNamed : List Definition → Layout → Type 0
  AreNamed ds layout = (p q : ℕ) (ps : List Part) → DataAt b layout p q ps → parts_in (named_parts ds ps) ≡ ps

  first_named : (s : Shape) (test : List ℕ → Bool) (others : Layout) (d : Definition) (ds : List Definition) → AreNamed ds others → AreNamed (d ∷ ds) (field_layout s test others)
  first_named Rest test others d ds go p q ps h =
      let one : (part : Part) → parts_in (named_parts (d ∷ ds) (part ∷ [])) ≡ part ∷ [] = λ part. ap (λ l. part ∷ parts_in l) (none_named ds) in
      ap (λ l. parts_in (named_parts (d ∷ ds) l)) h.1 ∙ (one _ ∙ sym h.1)
  first_named (Octets n) test others d ds go p q (OctetsPart xs ∷ ps) h = ap (λ (l : List Part). OctetsPart xs ∷ l) (go (p + n) q ps h.2)
  first_named (Octets n) test others d ds go p q _ h = absurd h
  first_named Counted test others d ds go p q (OctetsPart xs ∷ ps) h = ap (λ (l : List Part). OctetsPart xs ∷ l) (go (p + string_size b p) q ps h.2)
  first_named Counted test others d ds go p q _ h = absurd h
  first_named Sized test others d ds go p q (OctetsPart xs ∷ ps) h = ap (λ (l : List Part). OctetsPart xs ∷ l) (go (p + octets_size b p) q ps h.2)
  first_named Sized test others d ds go p q _ h = absurd h
  first_named Name test others d ds go p q (CompressibleName x ∷ ps) h = ap (λ (l : List Part). CompressibleName x ∷ l) (go h.0 q ps h.3)
  first_named Name test others d ds go p q _ h = absurd h
  first_named (UncompressedName pointers lowers) test others d ds go p q (UncompressedPart a x ∷ ps) h = ap (λ (l : List Part). UncompressedPart a x ∷ l) (go h.0 q ps h.3)
  first_named (UncompressedName pointers lowers) test others d ds go p q _ h = absurd h

  all_named : (ds : List Definition) → AreNamed ds (layout_of (kinds_in ds))
  unfolding layout_of
  all_named [] p q ps h = sym h.1
  all_named (d ∷ ds) p q ps h = first_named (shape_of d.1) (accepts d.1) (layout_of (kinds_in ds)) d ds (all_named ds) p q ps h

-- the remaining fields of an iterator have these parts
pub parts_of_named : (b : List ℕ) (ds : List Definition) (p q : ℕ) (ps : List Part) → DataAt b (layout_of (kinds_in ds)) p q ps
    → (fields : Fields) → fields_left fields ≡ named_parts ds ps → parts_left fields ≡ ps
parts_of_named b ds p q ps h fields e = ap parts_in e ∙ all_named b ds p q ps h

-- the fields of RDATA have its parts
pub parts_of_fields : (d : FieldData) (fields : Fields) → fields_left fields ≡ named_parts (definitions_of (rtype_of d)) (parts_of d) → parts_left fields ≡ parts_of d
parts_of_fields d fields e =
    let h = data_is_there _ _ _ d.encoded in
    parts_of_named (seen d.parser) (definitions_of (rtype_of d)) (offset d.parser) h.0 (parts_of d) h.1 fields e
