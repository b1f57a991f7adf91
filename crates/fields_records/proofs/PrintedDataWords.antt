-- The words of record data.
use Rattle.std.proofs.Common.{◌≡◌, ◌⊎◌, ℕ, ◌<◌, ◌^◌, Bool, List, [], ◌∷◌, length, refl, sym, ap, subst, arith, inl, inr, length-append}
use Rattle.std.specs.Prelude.{Option, Some, None, unwrap_or}
use Rattle.std.proofs.lemmas.List.Elements.{All-cons, All-nil}
use Rattle.hex.specs.Hex.{IsBytes}
use Rattle.dns_name.specs.Parsers.{offset, seen}
use Rattle.dns_data.specs.Layout.{IsLaidOut, Layout}
use Rattle.dns_data.specs.Printing.{opaque_text}
use Rattle.dns_wire.specs.Parts.{AreParts, Part}
use Rattle.dns_wire.specs.Parts.Part.{Octets as OctetsPart, CompressibleName, UncompressedName as UncompressedPart}
use Rattle.fields_table.specs.Accepts.{accepts}
use Rattle.fields_table.specs.Data.{any_laid_out, parts_of, rtype_of}
use Rattle.fields_table.specs.DataOrders.{octets_of_parts, part_octets}
use Rattle.fields_table.specs.EncodedData.{data_is_there}
use Rattle.fields_table.specs.FieldParts.{NamedPart, named_parts}
use Rattle.fields_table.specs.LaidOut.{encoded_parts}
use Rattle.fields_table.specs.Layouts.{field_layout, layout_of}
use Rattle.fields_table.specs.Shapes.{shape_of}
use Rattle.fields_table.specs.Table.{Definition, definitions_of, kinds_in, kinds_of}
use Rattle.fields_table.specs.declared.field_data.FieldData.{FieldData}
use Rattle.fields_table.specs.declared.shape.Shape.{Shape}
use Rattle.fields_table.specs.declared.shape.Shape.TheVariants.{Octets, Counted, Sized, Name, UncompressedName, Rest}
use Rattle.fields_table.proofs.theory.PartOctets.{parts_length}
use Rattle.fields_records.specs.DataTexts.{data_fields, data_line, data_text}
use Rattle.fields_records.specs.FieldTexts.{fields_octets, fields_text}
use Rattle.fields_records.specs.TextLaws.{FieldsAreAll}
use Rattle.fields_records.specs.FieldLaws.{HaveParts, AreWordsOfData, IsPartOf}
use Rattle.fields_text.specs.LineWords.{AreWordsOf}
use Rattle.fields_records.specs.ListLaws.{opaque_words}
use Rattle.fields_records.proofs.PrintedFieldWords.{fields_split}
use Rattle.fields_records.proofs.ListTexts.{opaque_split}
use Rattle.fields_text.proofs.theory.SpacedTexts.{words_are}
use Rattle.fields_text.proofs.theory.ByteLemmas.{bytes_front, bytes_back}

-- a text of the words of fields, or of data of an unknown type
abbrev HasWords : List NamedPart → List ℕ → Type 0
HasWords fields text = (words : List (List ℕ)) × AreWordsOfData fields words × AreWordsOf text words

text_split : (fields : List NamedPart) → HaveParts fields → IsBytes (fields_octets fields) → length (fields_octets fields) < 2 ^ 64 → (o : Option (List ℕ)) → fields_text [] fields ≡ o
    → HasWords fields (unwrap_or o (opaque_text (fields_octets fields)))
text_split fields are bytes small None e = (opaque_words (fields_octets fields), inr (e, refl), words_are _ _ (opaque_split (fields_octets fields) bytes small))
text_split fields are bytes small (Some text) e = let h = fields_split fields text are e in (h.0, inl h.1, h.2)

data_split : (fields : List NamedPart) → HaveParts fields → IsBytes (fields_octets fields) → length (fields_octets fields) < 2 ^ 64 → HasWords fields (data_text fields)
data_split fields are bytes small = text_split fields are bytes small (fields_text [] fields) refl

-- the first of parts, and the others
abbrev HasFirst : Shape → Layout → List Part → Type 0
HasFirst shape others parts = (part : Part) × (left : List Part) × (parts ≡ part ∷ left) × IsPartOf shape part × ((left ≡ []) ⊎ IsLaidOut others left)

first_of : (s : Shape) (test : List ℕ → Bool) (others : Layout) (parts : List Part) → IsLaidOut (field_layout s test others) parts → AreParts parts → IsBytes (octets_of_parts parts)
    → length (octets_of_parts parts) < 2 ^ 16 → HasFirst s others parts
first_of Rest test others parts h names bytes small =
    let own = subst (λ (ps : List Part). IsBytes (octets_of_parts ps)) h.1 bytes in
    let size = ap (λ (ps : List Part). length (octets_of_parts ps)) h.1 in
    (OctetsPart h.0, [], h.1, (bytes_front h.0 [] own, omega (arith, size, length-append {A = ℕ} h.0 [])), inl refl)
first_of (Octets n) test others [] h names bytes small = absurd h
first_of (Octets n) test others (OctetsPart xs ∷ ps) h names bytes small = (OctetsPart xs, ps, refl, (bytes_front xs (octets_of_parts ps) bytes, h.0), inr h.1)
first_of (Octets n) test others (CompressibleName x ∷ ps) h names bytes small = absurd h
first_of (Octets n) test others (UncompressedPart a x ∷ ps) h names bytes small = absurd h
first_of Counted test others [] h names bytes small = absurd h
first_of Counted test others (OctetsPart xs ∷ ps) h names bytes small =
    (OctetsPart xs, ps, refl, (bytes_front xs (octets_of_parts ps) bytes, omega (arith, small, length-append xs (octets_of_parts ps))), inr h.1)
first_of Counted test others (CompressibleName x ∷ ps) h names bytes small = absurd h
first_of Counted test others (UncompressedPart a x ∷ ps) h names bytes small = absurd h
first_of Sized test others [] h names bytes small = absurd h
first_of Sized test others (OctetsPart xs ∷ ps) h names bytes small =
    (OctetsPart xs, ps, refl, (bytes_front xs (octets_of_parts ps) bytes, omega (arith, small, length-append xs (octets_of_parts ps))), inr h.1)
first_of Sized test others (CompressibleName x ∷ ps) h names bytes small = absurd h
first_of Sized test others (UncompressedPart a x ∷ ps) h names bytes small = absurd h
first_of Name test others [] h names bytes small = absurd h
first_of Name test others (OctetsPart xs ∷ ps) h names bytes small = absurd h
first_of Name test others (CompressibleName x ∷ ps) h names bytes small = (CompressibleName x, ps, refl, names.0, inr h)
first_of Name test others (UncompressedPart a x ∷ ps) h names bytes small = absurd h
first_of (UncompressedName pointers lowers) test others [] h names bytes small = absurd h
first_of (UncompressedName pointers lowers) test others (OctetsPart xs ∷ ps) h names bytes small = absurd h
first_of (UncompressedName pointers lowers) test others (CompressibleName x ∷ ps) h names bytes small = absurd h
first_of (UncompressedName pointers lowers) test others (UncompressedPart a x ∷ ps) h names bytes small = (UncompressedPart a x, ps, refl, names.0, inr h.1)

names_left : (part : Part) (parts : List Part) → AreParts (part ∷ parts) → AreParts parts
names_left (OctetsPart octets) parts h = h
names_left (CompressibleName name) parts h = h.1
names_left (UncompressedPart lowered name) parts h = h.1

abbrev IsField : NamedPart → Type 0
IsField field = IsPartOf (shape_of field.kind) field.part

no_fields : (ds : List Definition) → HaveParts (named_parts ds [])
no_fields [] = All-nil IsField
no_fields (d ∷ ds) = All-nil IsField

-- parts that have the layout of fields are parts of these fields
are_fields : (ds : List Definition) (parts : List Part) → IsLaidOut (layout_of (kinds_in ds)) parts → AreParts parts → IsBytes (octets_of_parts parts) → length (octets_of_parts parts) < 2 ^ 16
    → HaveParts (named_parts ds parts)
unfolding layout_of
are_fields [] parts h names bytes small = All-nil IsField
are_fields (d ∷ ds) parts h names bytes small =
    let first = first_of (shape_of d.1) (accepts d.1) (layout_of (kinds_in ds)) parts h names bytes small in
    let own = subst AreParts first.2 names in
    let octets = subst (λ (ps : List Part). IsBytes (octets_of_parts ps)) first.2 bytes in
    let size = ap (λ (ps : List Part). length (octets_of_parts ps)) first.2 in
    let later : HaveParts (named_parts ds first.1) =
    elim first.4 [
      | inl e ↦ subst (λ (ps : List Part). HaveParts (named_parts ds ps)) (sym e) (no_fields ds)
      | inr laid ↦
          are_fields ds first.1 laid (names_left first.0 first.1 own) (bytes_back (part_octets first.0) (octets_of_parts first.1) octets)
          (omega (arith, size, small, length-append (part_octets first.0) (octets_of_parts first.1)))
    ] in
    subst (λ (ps : List Part). HaveParts (named_parts (d ∷ ds) ps)) (sym first.2)
    (All-cons IsField (record { name = d.0; kind = d.1; part = first.0 }) (named_parts ds first.1) first.3 later)

-- The line of RDATA is split into the words of its fields.
pub line_split : FieldsAreAll → (d : FieldData) → IsBytes (fields_octets (data_fields d)) → HasWords (data_fields d) (data_line d)
line_split all d bytes =
    let laid = any_laid_out d in
    let there = data_is_there _ _ _ d.encoded in
    let names = encoded_parts (seen d.parser) (layout_of (kinds_of d.rtype)) (offset d.parser) there.0 (parts_of d) there.1 in
    let own = subst IsBytes (all d) bytes in
    let size = parts_length (parts_of d) in
    let short = laid.0 in
    let small : length (octets_of_parts (parts_of d)) < 2 ^ 16 = omega (arith, size, short) in
    let same = ap length (all d) in
    data_split (data_fields d) (are_fields (definitions_of (rtype_of d)) (parts_of d) laid.1 names own small) bytes (omega (arith, same, small))
