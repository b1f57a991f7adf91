-- The fields of record data have all its parts.
use Rattle.std.proofs.Common.{◌≡◌, ℕ, Bool, List, [], ◌∷◌, ◌++◌, ap, refl, sym, subst}
use Rattle.std.specs.List.{flat_map}
use Rattle.dns_data.specs.Layout.{Layout, IsLaidOut}
use Rattle.fields_table.specs.Accepts.{accepts}
use Rattle.fields_table.specs.Data.{any_laid_out, parts_of, rtype_of}
use Rattle.fields_table.specs.FieldParts.{named_parts}
use Rattle.fields_table.specs.Layouts.{field_layout, layout_of}
use Rattle.fields_table.specs.Shapes.{shape_of}
use Rattle.fields_table.specs.Table.{Definition, definitions_of, kinds_in}
use Rattle.fields_table.specs.declared.field_data.FieldData.{FieldData}
use Rattle.fields_table.specs.declared.shape.Shape.{Shape}
use Rattle.fields_table.specs.declared.shape.Shape.TheVariants.{Octets, Counted, Sized, Name, UncompressedName, Rest}
use Rattle.dns_wire.specs.Parts.{Part}
use Rattle.dns_wire.specs.Parts.Part.{Octets as OctetsPart, CompressibleName, UncompressedName as UncompressedPart}
use Rattle.fields_records.specs.DataTexts.{data_fields}
use Rattle.fields_table.specs.DataOrders.{part_octets}
use Rattle.fields_records.specs.FieldTexts.{fields_octets}

no_parts : (ds : List Definition) → fields_octets (named_parts ds []) ≡ []
no_parts [] = refl
no_parts (d ∷ ds) = refl

-- the octets of a field and of the others, by those of the others
first_part : (d : Definition) (ds : List Definition) (part : Part) (parts : List Part) → fields_octets (named_parts ds parts) ≡ flat_map part_octets parts
    → fields_octets (named_parts (d ∷ ds) (part ∷ parts)) ≡ flat_map part_octets (part ∷ parts)
first_part d ds part parts e = ap (λ (octets : List ℕ). part_octets part ++ octets) e

by_shape : (s : Shape) (test : List ℕ → Bool) (others : Layout) (d : Definition) (ds : List Definition)
    → ((parts : List Part) → IsLaidOut others parts → fields_octets (named_parts ds parts) ≡ flat_map part_octets parts)
    → (parts : List Part) → IsLaidOut (field_layout s test others) parts → fields_octets (named_parts (d ∷ ds) parts) ≡ flat_map part_octets parts
by_shape Rest test others d ds go parts h =
    subst (λ (ps : List Part). fields_octets (named_parts (d ∷ ds) ps) ≡ flat_map part_octets ps) (sym h.1) (first_part d ds (OctetsPart h.0) [] (no_parts ds))
by_shape (Octets n) test others d ds go [] h = absurd h
by_shape (Octets n) test others d ds go (OctetsPart xs ∷ ps) h = first_part d ds (OctetsPart xs) ps (go ps h.1)
by_shape (Octets n) test others d ds go (CompressibleName x ∷ ps) h = absurd h
by_shape (Octets n) test others d ds go (UncompressedPart a x ∷ ps) h = absurd h
by_shape Counted test others d ds go [] h = absurd h
by_shape Counted test others d ds go (OctetsPart xs ∷ ps) h = first_part d ds (OctetsPart xs) ps (go ps h.1)
by_shape Counted test others d ds go (CompressibleName x ∷ ps) h = absurd h
by_shape Counted test others d ds go (UncompressedPart a x ∷ ps) h = absurd h
by_shape Sized test others d ds go [] h = absurd h
by_shape Sized test others d ds go (OctetsPart xs ∷ ps) h = first_part d ds (OctetsPart xs) ps (go ps h.1)
by_shape Sized test others d ds go (CompressibleName x ∷ ps) h = absurd h
by_shape Sized test others d ds go (UncompressedPart a x ∷ ps) h = absurd h
by_shape Name test others d ds go [] h = absurd h
by_shape Name test others d ds go (OctetsPart xs ∷ ps) h = absurd h
by_shape Name test others d ds go (CompressibleName x ∷ ps) h = first_part d ds (CompressibleName x) ps (go ps h)
by_shape Name test others d ds go (UncompressedPart a x ∷ ps) h = absurd h
by_shape (UncompressedName pointers lowers) test others d ds go [] h = absurd h
by_shape (UncompressedName pointers lowers) test others d ds go (OctetsPart xs ∷ ps) h = absurd h
by_shape (UncompressedName pointers lowers) test others d ds go (CompressibleName x ∷ ps) h = absurd h
by_shape (UncompressedName pointers lowers) test others d ds go (UncompressedPart a x ∷ ps) h = first_part d ds (UncompressedPart a x) ps (go ps h.1)

-- the octets of fields whose parts have their layout
all_octets : (ds : List Definition) (parts : List Part) → IsLaidOut (layout_of (kinds_in ds)) parts → fields_octets (named_parts ds parts) ≡ flat_map part_octets parts
unfolding layout_of
all_octets [] parts h = sym (ap (flat_map part_octets) h)
all_octets (d ∷ ds) parts h = by_shape (shape_of d.1) (accepts d.1) (layout_of (kinds_in ds)) d ds (all_octets ds) parts h

-- the octets of the fields are those of all parts
pub fields_are_all : (fields : FieldData) → fields_octets (data_fields fields) ≡ flat_map part_octets (parts_of fields)
fields_are_all fields = all_octets (definitions_of (rtype_of fields)) (parts_of fields) (any_laid_out fields).1
