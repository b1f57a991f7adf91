-- Where the fields of RDATA are encoded, by the layout of its type, with the names within them.
use Rattle.std.proofs.Common.{◌≡◌, ◌∙◌, ℕ, ◌+◌, ◌-◌, ◌≤◌, false, List, [], ◌∷◌, ◌++◌, length, take, drop, slice_range, ap, sym, subst, refl, arith, length-append, length-drop}
use Rattle.std.proofs.lemmas.List.{take_all}
use Rattle.std.proofs.lemmas.List.Sums.{sum_by-cons}
use Rattle.dns_name.specs.Names.{NameEndsAt}
use Rattle.dns_name.proofs.theory.ExtentLaws.{ends_in_octets}
use Rattle.dns_wire.specs.Parts.{Part, parts_size}
use Rattle.dns_wire.specs.Parts.Part.{Octets as OctetsPart, CompressibleName, UncompressedName as UncompressedPart}
use Rattle.dns_data.specs.Layout.{Layout, string_size, octets_size, DataAt}
use Rattle.dns_data.proofs.theory.DataReading.{range_within}
use Rattle.fields_table.specs.Accepts.{accepts}
use Rattle.fields_table.specs.FieldParts.{NamedPart, named_parts}
use Rattle.fields_table.specs.Layouts.{field_layout, layout_of, most, takes_rest}
use Rattle.fields_table.specs.Shapes.{shape_of}
use Rattle.fields_table.specs.Table.{Definition, kinds_in}
use Rattle.fields_table.specs.declared.shape.Shape.{Shape}
use Rattle.fields_table.specs.declared.shape.Shape.TheVariants.{Octets, Counted, Sized, Name, UncompressedName, Rest}
use Rattle.dnsm_read.specs.DataNames.{most_names, most_names_in}
use Rattle.dnsm_read.specs.FieldOffsets.{FieldsAt, PartAt}
use Rattle.dnsm_read.specs.NameOffsets.{NamesFrom, NamesWithin}
use Rattle.dnsm_read.proofs.NameOffsetLemmas.{few_names, names_there, no_names, one_name, one_uncompressed_name}

-- without parts no fields remain
none_named : (ds : List Definition) → named_parts ds [] ≡ []
none_named [] = refl
none_named (d ∷ ds) = refl

module _ (b : List ℕ) where
  -- the fields are encoded from p to q, and the names within them, at most n, are at these offsets
  pub record Encoded (fields : List NamedPart) (p q n : ℕ) : Type 0 where
    pub at : FieldsAt b fields p q
    pub offsets : List ℕ
    pub names : NamesFrom b fields p offsets
    pub few : length offsets ≤ n

  abbrev AreEncoded : List Definition → Layout → ℕ → Type 0
  AreEncoded ds layout n = (p q : ℕ) (parts : List Part) → p ≤ length b → parts_size parts ≤ most → DataAt b layout p q parts → Encoded (named_parts ds parts) p q n

  -- a field with the names within it, and then the remaining fields
  field_first : (field : NamedPart) (fields : List NamedPart) (p r q m n : ℕ) (own : List ℕ) → PartAt b field.part p r → NamesWithin b field.kind field.part p own → length own ≤ m
      → Encoded fields r q n → Encoded (field ∷ fields) p q (m + n)
  field_first field fields p r q m n own at names few others =
      let size = length-append own others.offsets in
      let later = others.few in
      record {
        at = (r, at, others.at);
        offsets = own ++ others.offsets;
        names = (r, at, own, names, others.offsets, others.names, refl);
        few = omega (arith, size, few, later);
      }

  module _ (others : Layout) (d : Definition) (ds : List Definition) (n : ℕ) (go : AreEncoded ds others n) where
    -- octets that don't take all that remain
    octets_first : (p q k : ℕ) (octets : List ℕ) (parts : List Part) → takes_rest (shape_of d.1) ≡ false → p ≤ length b → parts_size (OctetsPart octets ∷ parts) ≤ most → length octets ≡ k
        → slice_range b p (p + k) ≡ octets → DataAt b others (p + k) q parts → Encoded (named_parts (d ∷ ds) (OctetsPart octets ∷ parts)) p q (most_names d.1 + n)
    octets_first p q k octets parts fixed before small size is after =
        let within = range_within b p k octets before size is in
        field_first (record { name = d.0; kind = d.1; part = OctetsPart octets }) (named_parts ds parts) p (p + k) q (most_names d.1) n [] (omega arith, within, is) (no_names b d.1 octets p fixed)
        (omega arith) (go (p + k) q parts within (omega arith) after)

    -- a name
    name_first : (part : Part) (p r q : ℕ) (parts : List Part) → PartAt b part p r → NamesWithin b d.1 part p (p ∷ []) → 1 ≤ most_names d.1 → NameEndsAt b p r → parts_size (part ∷ parts) ≤ most
        → DataAt b others r q parts → Encoded (named_parts (d ∷ ds) (part ∷ parts)) p q (most_names d.1 + n)
    name_first part p r q parts at names one ends small after =
        field_first (record { name = d.0; kind = d.1; part = part }) (named_parts ds parts) p r q (most_names d.1) n (p ∷ []) at names one (go r q parts (ends_in_octets ends) (omega arith) after)

    first_at : (s : Shape) → shape_of d.1 ≡ s → AreEncoded (d ∷ ds) (field_layout s (accepts d.1) others) (most_names d.1 + n)
    first_at Rest shape p q parts before small h =
        let left = length-drop p b in
        let own : q ≡ p + length (drop p b) = omega (arith, h.0) in
        let size : q - p ≡ length (drop p b) = omega arith in
        let whole : slice_range b p q ≡ drop p b = ap (λ (k : ℕ). take k (drop p b)) size ∙ take_all (length (drop p b)) (drop p b) (omega arith) in
        let names = names_there b d.1 (drop p b) p refl h.2 in
        let all : parts_size parts ≡ length (drop p b) + 0 = ap (λ (ps : List Part). parts_size ps) h.1 in
        let few = few_names b d.1 (drop p b) p names.0 (omega arith) names.1 in
        let none : Encoded (named_parts ds []) q q n =
        subst (λ (fields : List NamedPart). Encoded fields q q n) (sym (none_named ds)) (record { at = refl; offsets = []; names = refl; few = omega arith }) in
        let one : Encoded (named_parts (d ∷ ds) (OctetsPart (drop p b) ∷ [])) p q (most_names d.1 + n) =
        field_first (record { name = d.0; kind = d.1; part = OctetsPart (drop p b) }) (named_parts ds []) p q q (most_names d.1) n names.0 (own, omega (arith, h.0), whole) names.1 few none in
        subst (λ (ps : List Part). Encoded (named_parts (d ∷ ds) ps) p q (most_names d.1 + n)) (sym h.1) one
    first_at (Octets m) shape p q [] before small h = absurd h
    first_at (Octets m) shape p q (OctetsPart xs ∷ ps) before small h = octets_first p q m xs ps (ap takes_rest shape) before small h.0 h.1 h.2
    first_at (Octets m) shape p q (CompressibleName x ∷ ps) before small h = absurd h
    first_at (Octets m) shape p q (UncompressedPart a x ∷ ps) before small h = absurd h
    first_at Counted shape p q [] before small h = absurd h
    first_at Counted shape p q (OctetsPart xs ∷ ps) before small h = octets_first p q (string_size b p) xs ps (ap takes_rest shape) before small h.0 h.1 h.2
    first_at Counted shape p q (CompressibleName x ∷ ps) before small h = absurd h
    first_at Counted shape p q (UncompressedPart a x ∷ ps) before small h = absurd h
    first_at Sized shape p q [] before small h = absurd h
    first_at Sized shape p q (OctetsPart xs ∷ ps) before small h = octets_first p q (octets_size b p) xs ps (ap takes_rest shape) before small h.0 h.1 h.2
    first_at Sized shape p q (CompressibleName x ∷ ps) before small h = absurd h
    first_at Sized shape p q (UncompressedPart a x ∷ ps) before small h = absurd h
    first_at Name shape p q [] before small h = absurd h
    first_at Name shape p q (OctetsPart xs ∷ ps) before small h = absurd h
    first_at Name shape p q (CompressibleName x ∷ ps) before small h =
        name_first (CompressibleName x) p h.0 q ps (h.1, h.2) ((x, h.1), refl) (one_name d.1 shape) h.2 small h.3
    first_at Name shape p q (UncompressedPart a x ∷ ps) before small h = absurd h
    first_at (UncompressedName pointers lowers) shape p q [] before small h = absurd h
    first_at (UncompressedName pointers lowers) shape p q (OctetsPart xs ∷ ps) before small h = absurd h
    first_at (UncompressedName pointers lowers) shape p q (CompressibleName x ∷ ps) before small h = absurd h
    first_at (UncompressedName pointers lowers) shape p q (UncompressedPart a x ∷ ps) before small h =
        name_first (UncompressedPart a x) p h.0 q ps (h.1, h.2) ((x, h.1), refl) (one_uncompressed_name d.1 pointers lowers shape) h.2 small h.3

-- The fields of a layout are encoded one after the other, with the names within them.
pub fields_encoded : (b : List ℕ) (ds : List Definition) (p q : ℕ) (parts : List Part) → p ≤ length b → parts_size parts ≤ most → DataAt b (layout_of (kinds_in ds)) p q parts
    → Encoded b (named_parts ds parts) p q (most_names_in ds)
unfolding layout_of
fields_encoded b [] p q parts before small h = record { at = h.0; offsets = []; names = refl; few = omega arith }
fields_encoded b (d ∷ ds) p q parts before small h =
    subst (λ (n : ℕ). Encoded b (named_parts (d ∷ ds) parts) p q n) (sym (sum_by-cons (λ (field : Definition). most_names field.1) d ds))
    (first_at b (layout_of (kinds_in ds)) d ds (most_names_in ds) (fields_encoded b ds) (shape_of d.1) refl p q parts before small h)
