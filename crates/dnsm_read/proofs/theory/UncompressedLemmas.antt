-- The octets of RDATA with its names uncompressed are RDATA of the same type.
use Rattle.std.proofs.Common.{◌≡◌, ◌∙◌, ℕ, ◌<◌, ◌≤◌, ◌==◌, true, false, Bool, List, [], ◌∷◌, length, ap, sym, subst, refl, arith, eq-eqb, length-append}
use Rattle.std.proofs.lemmas.Bool.Decides.{Decides-eqb}
use Rattle.std.specs.Prelude.{◌||◌, ◌&&◌, if◌then◌else◌}
use Rattle.dns_name.specs.Names.{Labels, NameContinues, uncompressed}
use Rattle.dns_name.proofs.theory.ExtentLaws.{ends_after}
use Rattle.dns_wire.specs.Parts.{Part}
use Rattle.dns_wire.specs.Parts.Part.{Octets, CompressibleName, UncompressedName}
use Rattle.fields_table.specs.Data.{parts_of, rtype_of}
use Rattle.fields_table.specs.DataOrders.{octets_of_parts, part_octets}
use Rattle.fields_table.specs.FieldParts.{NamedPart, named_parts}
use Rattle.fields_table.specs.Table.{definitions_of}
use Rattle.fields_table.specs.LayoutTypes.{layout_type, null_type}
use Rattle.fields_table.specs.UncompressedData.{IsUncompressedData}
use Rattle.fields_table.specs.declared.field_data.FieldData.{FieldData}
use Rattle.fields_table.proofs.theory.PartOctets.{parts_length}
use Rattle.fields_table.proofs.theory.UncompressedOctets.{uncompressed_back}
use Rattle.fields_records.specs.DataTexts.{data_fields as fields_of}
use Rattle.fields_records.specs.FieldTexts.{fields_octets}
use Rattle.dnsm_read.specs.DataFields.{IsDataIn, UncompressesTo, data_end, data_fields, data_type, up_to_data_end}
use Rattle.dnsm_read.specs.FieldOffsets.{FieldsAt, PartAt}
use Rattle.dnsm_read.specs.declared.walk.Item.{Item}

-- An encoding ends after its offset.
pub ends_later : {b : List ℕ} {p s q : ℕ} → NameContinues b p s q → p < q
ends_later (NameContinues.root h) = omega arith
ends_later (NameContinues.pointer h) = omega arith
ends_later (NameContinues.label h small fits x) = let after = ends_after x in omega arith

some_octets : (name : Labels) → 0 < length (uncompressed name)
some_octets [] = omega arith
some_octets (label ∷ name) = omega arith

-- Fields take no octets exactly if they take none uncompressed.
record Grows (p q size : ℕ) : Type 0 where
  rises : p ≤ q
  none : q ≡ p → size ≡ 0
  stays : size ≡ 0 → q ≡ p

name_grows : (name : Labels) (p q : ℕ) → p < q → Grows p q (length (uncompressed name))
name_grows name p q later =
    let some = some_octets name in
    record { rises = omega arith; none = λ same. absurd (omega arith); stays = λ empty. absurd (omega arith) }

part_grows : (b : List ℕ) (part : Part) (p q : ℕ) → PartAt b part p q → Grows p q (length (part_octets part))
part_grows b (Octets octets) p q at = let end = at.0 in record { rises = omega arith; none = λ same. omega arith; stays = λ empty. omega arith }
part_grows b (CompressibleName name) p q at = name_grows name p q (ends_later at.1)
part_grows b (UncompressedName lowercased name) p q at = name_grows name p q (ends_later at.1)

fields_grow : (b : List ℕ) (fields : List NamedPart) (p q : ℕ) → FieldsAt b fields p q → Grows p q (length (fields_octets fields))
fields_grow b [] p q at = record { rises = omega arith; none = λ same. refl; stays = λ empty. at }
fields_grow b (field ∷ fields) p q at =
    let first = part_grows b field.part p at.0 at.1 in
    let others = fields_grow b fields at.0 q at.2 in
    let size = length-append (part_octets field.part) (fields_octets fields) in
    let before = first.rises in
    let after = others.rises in
    record {
      rises = omega arith;
      none = λ same. let one = first.none (omega arith) in let more = others.none (omega arith) in omega (arith, size, one, more);
      stays = λ empty. others.stays (omega (arith, size)) ∙ first.stays (omega (arith, size));
    }

same_test : (m n : ℕ) → (m ≡ 0 → n ≡ 0) → (n ≡ 0 → m ≡ 0) → (m == 0) ≡ (n == 0)
same_test m n to from = by (m == 0) (n == 0) refl refl
  where
    by : (x y : Bool) → (m == 0) ≡ x → (n == 0) ≡ y → (m == 0) ≡ (n == 0)
    by true y is other = is ∙ sym (eq-eqb n 0 (to ((Decides-eqb m 0).0 is)))
    by false true is other = eq-eqb m 0 (from ((Decides-eqb n 0).0 other)) ∙ sym other
    by false false is other = is ∙ sym other

-- The type of RDATA is that of its octets uncompressed.
pub same_type : (b : List ℕ) (item : Item) (fields : List NamedPart) (octets : List ℕ) → fields_octets fields ≡ octets → FieldsAt b fields item.«data» (data_end item)
    → data_type item ≡ layout_type item.class (length octets) item.rtype
same_type b item fields octets is at =
    let grows = fields_grow b fields item.«data» (data_end item) at in
    let size = ap length is in
    let same = same_test item.data_len (length octets) (λ empty. sym size ∙ grows.none (omega arith)) (λ empty. let stays = grows.stays (size ∙ empty) in omega (arith, stays)) in
    ap (λ (empty : Bool). if ((item.class == 254) || (item.class == 255)) && empty then null_type else item.rtype) same

module _ (b : List ℕ) (item : Item) (fields : FieldData) (own : rtype_of fields ≡ data_type item) (there : IsDataIn b item (parts_of fields)) where
  -- The octets of the fields are the RDATA uncompressed.
  pub copied : FieldsAt (up_to_data_end b item) (data_fields item (parts_of fields)) item.«data» (data_end item)
      → fields_octets (fields_of fields) ≡ octets_of_parts (parts_of fields) → UncompressesTo b item (octets_of_parts (parts_of fields))
  copied at are =
      let octets = octets_of_parts (parts_of fields) in
      let all : fields_octets (data_fields item (parts_of fields)) ≡ octets = ap (λ n. fields_octets (named_parts (definitions_of n) (parts_of fields))) (sym own) ∙ are in
      let type = own ∙ same_type (up_to_data_end b item) item (data_fields item (parts_of fields)) octets all at in
      record { parts = parts_of fields; there = there; again = subst (λ n. IsUncompressedData n octets (parts_of fields)) type (uncompressed_back fields) }

-- They are at most 65,535.
pub uncompressed_short : (b : List ℕ) (item : Item) (octets : List ℕ) → UncompressesTo b item octets → length octets ≤ 65535
uncompressed_short b item octets is =
    let size = parts_length is.parts in
    let same = ap length is.again.uncompressed in
    let few = is.again.fields.0 in
    omega (arith, size, same, few)
