-- RDATA that has the layout of its type after TTLs were changed: names at known offsets stay, others have no pointer, and all other octets are the same.
use Rattle.std.proofs.Common.{◌≡◌, ◌≢◌, ◌∙◌, ℕ, zero, suc, ◌+◌, ◌-◌, ◌*◌, ◌<◌, ◌≤◌, Bool, true, false, cond}
use Rattle.std.proofs.Common.{List, [], ◌∷◌, take, drop, length, length-take, length-drop, map, All, inl, inr, arith, refl, subst, sym, ap}
use Rattle.std.specs.Prelude.{◌||◌, ◌==◌, IsTrue, get_or, nat_eq, slice_index, slice_range, unwrap_or}
use Rattle.std.specs.List.{list_all, list_any}
use Rattle.std.proofs.lemmas.Bool.{and_parts, eqb-true, false≢true}
use Rattle.std.proofs.lemmas.List.{drop-take}
use Rattle.std.proofs.lemmas.List.Elements.{All-head, All-tail}
use Rattle.std.proofs.lemmas.Option.{unwrap_or-slice_get}
use Rattle.std.specs.Int.{w16}
use Rattle.dns_name.specs.Names.{Labels, name_size, uncompressed, label_at, NameAt, NameContinues, NameEndsAt}
use Rattle.dns_name.specs.Parsers.{number_at}
use Rattle.dns_name.specs.Unique.{label_head, name_size-label_at}
use Rattle.dns_name.proofs.theory.ExtentLaws.{ends_after}
use Rattle.dns_name.proofs.theory.HeadLemmas.{root_within, pointer_within}
use Rattle.dns_name.proofs.theory.LabelsLemmas.{length-uncompressed}
use Rattle.dns_name.proofs.theory.Names.{one_end}
use Rattle.dns_wire.specs.Parts.{Part}
use Rattle.dns_wire.specs.Parts.Part.{Octets as OctetsPart, CompressibleName, UncompressedName as UncompressedPart}
use Rattle.dns_wire.proofs.theory.Stability.{get_take}
use Rattle.dns_data.specs.Layout.{Layout, DataAt, string_size, octets_size}
use Rattle.dns_data.specs.Layout.Layout.{Rest as RestLayout, Fixed, CharacterString, SizedOctets, DomainName, UncompressedDomainName}
use Rattle.fields_table.specs.Accepts.{accepts}
use Rattle.fields_table.specs.Layouts.{field_layout, layout_of}
use Rattle.fields_table.specs.RecordTypes.{Definition, TypeDefinition, record_types}
use Rattle.fields_table.specs.Shapes.{shape_of}
use Rattle.fields_table.specs.Table.{definitions_of, fields_in, kinds_in, kinds_of}
use Rattle.fields_table.specs.declared.kind.Kind.{Kind}
use Rattle.fields_table.specs.declared.shape.Shape.{Shape}
use Rattle.fields_table.specs.declared.shape.Shape.TheVariants.{Octets, Counted, Sized, Name, UncompressedName, Rest}
use Rattle.dns_read.specs.Reading.{Skipped}
use Rattle.dns_read.specs.Reading.Skipped.{none, more}
use Rattle.dns_edit.specs.Fields.{BeginsAfterFields, names_after, shapes_of}
use Rattle.dns_edit.specs.Rdata.{name_count, names_start, octets_before, string_end}
use Rattle.dns_edit.specs.Readings.{RdataLaidOutAlike}
use Rattle.dns_edit.specs.Ttls.{with_ttls}
use Rattle.dns_edit.specs.Uses.{NameApart}
use Rattle.dns_edit.proofs.AgreeLemmas.{SameFrom, continues_same, dropped, get_same, head_same}
use Rattle.dns_edit.proofs.DataLemmas.{lift_label, lift_pointer, lift_root, rdata_reads_alike}
use Rattle.dns_edit.proofs.EntryLemmas.{fields_within, long_record}
use Rattle.dns_edit.proofs.NameStarts.{names_begin}
use Rattle.dns_edit.proofs.StayLemmas.{with_ttls_same}
use Rattle.dns_edit.proofs.theory.NamedTypes.{named_in_table}

-- What the table says of names.

-- whether none of the fields is a name that may have a pointer
abbrev none_pointed : List Shape → Bool
none_pointed [] = true
none_pointed (Name ∷ shapes) = false
none_pointed (UncompressedName pointers lowers ∷ shapes) = cond pointers false (none_pointed shapes)
none_pointed (_ ∷ shapes) = none_pointed shapes

-- whether the fields are n names, and others of which none is a name that may have a pointer
abbrev names_first : ℕ → List Shape → Bool
names_first zero shapes = none_pointed shapes
names_first (suc n) (Name ∷ shapes) = names_first n shapes
names_first (suc n) (UncompressedName pointers lowers ∷ shapes) = names_first n shapes
names_first (suc n) _ = false

-- the fields from the first that isn't of a fixed length and no character string
abbrev from_name : List Shape → List Shape
from_name [] = []
from_name (Octets n ∷ shapes) = from_name shapes
from_name (Counted ∷ shapes) = from_name shapes
from_name (shape ∷ shapes) = shape ∷ shapes

abbrev row_fits : TypeDefinition → Bool
row_fits type = names_first (name_count type.number) (from_name (map shape_of (kinds_in type.fields)))

rows_fit : list_all row_fits record_types ≡ true
unfolding record_types
rows_fit = refl

shapes_same : (fields : List Definition) → shapes_of fields ≡ map shape_of (kinds_in fields)
shapes_same [] = refl
shapes_same (field ∷ fields) = ap (λ (shapes : List Shape). shape_of field.1 ∷ shapes) (shapes_same fields)

-- The fields of type n have its names, after those before them.
record HasNames (n : ℕ) (fields : List Definition) : Type 0 where
  fit : names_first (name_count n) (from_name (map shape_of (kinds_in fields))) ≡ true
  start : name_count n ≢ 0 → (b : List ℕ) (p : ℕ) → names_start b n p ≡ names_after b (map shape_of (kinds_in fields)) p

row_has : (type : TypeDefinition) → row_fits type ≡ true → BeginsAfterFields type → HasNames type.number type.fields
row_has type fit begins =
    record { fit = fit; start = λ some b p. begins some b p ∙ ap (λ (shapes : List Shape). names_after b shapes p) (shapes_same type.fields) }

has_by : (n : ℕ) (type : TypeDefinition) (types : List TypeDefinition) (same : Bool) → (type.number == n) ≡ same → HasNames type.number type.fields
    → ((name_count n ≢ 0 → list_any (λ type. type.number == n) types ≡ true) → HasNames n (fields_in types n))
    → (name_count n ≢ 0 → same || list_any (λ type. type.number == n) types ≡ true) → HasNames n (cond same type.fields (fields_in types n))
has_by n type types true e first rest there = subst (λ (k : ℕ). HasNames k type.fields) (eqb-true type.number n e) first
has_by n type types false e first rest there = rest there

no_type : (n : ℕ) → (name_count n ≢ 0 → false ≡ true) → name_count n ≡ 0
no_type n there = elim (name_count n) as (λ k. (k ≢ 0 → false ≡ true) → k ≡ 0) [ zero ↦ λ there. refl | suc k ↦ λ there. absurd (false≢true (there (λ e. omega arith))) ] there

table_has : (types : List TypeDefinition) (n : ℕ) → list_all row_fits types ≡ true → All BeginsAfterFields types
    → (name_count n ≢ 0 → list_any (λ type. type.number == n) types ≡ true) → HasNames n (fields_in types n)
table_has [] n all begin there =
    let nil = no_type n there in
    record {
      fit = subst (λ (k : ℕ). names_first k (Rest ∷ []) ≡ true) (sym nil) refl;
      start = λ some. absurd (some nil);
    }
table_has (type ∷ types) n all begin there =
    let both = and_parts (row_fits type) (list_all row_fits types) all in
    let first = row_has type both.0 (All-head BeginsAfterFields type types begin) in
    has_by n type types (type.number == n) refl first (table_has types n both.1 (All-tail BeginsAfterFields type types begin)) there

type_has : (n : ℕ) → HasNames n (definitions_of n)
unfolding definitions_of
type_has n = table_has record_types n rows_fit names_begin (named_in_table n)

-- names

not_one : {b : List ℕ} {p : ℕ} {name : Labels} → NameAt b p name → name_size name ≡ 1 → ⊥
not_one (NameAt.root h) e = absurd (omega arith)
not_one {b = b} (NameAt.label {p = p} {n = n} {name = name} h fits x small) e =
    let k = name_size-label_at b p n name fits in
    let l = label_head b p n h in
    let some = l.some in
    absurd (omega arith)
not_one (NameAt.pointer h back x) e = not_one x e

-- Past the end of the octets no name is encoded.
no_name_past : (b : List ℕ) (e : ℕ) {p : ℕ} {name : Labels} → e ≤ p → NameAt (take e b) p name → ⊥
no_name_past b e l (NameAt.root {p = p} h) = let n = length-take e b in let w = root_within (take e b) p h in absurd (omega arith)
no_name_past b e l (NameAt.label h fits x small) = let n = length-take e b in absurd (omega arith)
no_name_past b e l (NameAt.pointer {p = p} {t = t} h back x) = let n = length-take e b in let w = pointer_within (take e b) p t h in absurd (omega arith)

-- The encoding of a name ends where it does in all octets.
lift_ends : (b : List ℕ) (e : ℕ) {p s r : ℕ} → NameContinues (take e b) p s r → NameContinues b p s r
lift_ends b e (NameContinues.root {p = p} h) = NameContinues.root (lift_root b e p h)
lift_ends b e (NameContinues.pointer {p = p} h) = NameContinues.pointer (lift_pointer b e p h)
lift_ends b e (NameContinues.label {p = p} h small fits x) = let n = length-take e b in NameContinues.label (lift_label b e p h) small (omega arith) (lift_ends b e x)

-- The next n names are encoded in both, if they are in the first.
abbrev Known : List ℕ → List ℕ → ℕ → ℕ → ℕ → Type 0
Known xs ys start zero p = Unit {0}
Known xs ys start (suc n) p = start ≤ p → ((name : Labels) → NameAt xs p name → NameAt ys p name) × ((r : ℕ) → NameEndsAt xs p r → Known xs ys start n r)

-- Octets that are the same from an offset on.
module _ (xs ys : List ℕ) (start : ℕ) (same : SameFrom xs ys start) where
  octet_same : (p : ℕ) → start ≤ p → slice_index xs p ≡ slice_index ys p
  octet_same p l = sym (unwrap_or-slice_get xs p 0) ∙ ap (λ o. unwrap_or o 0) (get_same same p l) ∙ unwrap_or-slice_get ys p 0

  -- A name that takes all its octets has no pointer, and is encoded in both.
  name_whole : {p s r : ℕ} {name : Labels} → start ≤ p → NameAt xs p name → NameContinues xs p s r → r ≡ p + length (uncompressed name) → NameAt ys p name
  name_whole l (NameAt.root {p = p} h) ends e = NameAt.root (sym (head_same same p l) ∙ h)
  name_whole l (NameAt.label h fits x small) (NameContinues.root g) e = absurd (cc)
  name_whole l (NameAt.label h fits x small) (NameContinues.pointer g) e = absurd (cc)
  name_whole l (NameAt.label {p = p} {n = n} {name = name} h fits x small) (NameContinues.label {n = k} {s = s} {q = r} g short within ends) e =
      let known : k ≡ n = cc in
      let after : NameContinues xs (p + 1 + n) (s + n + 1) r = subst (λ n. NameContinues xs (p + 1 + n) (s + n + 1) r) known ends in
      let whole = length-uncompressed (label_at xs p n ∷ name) in
      let rest = length-uncompressed name in
      let size = name_size-label_at xs p n name fits in
      let long = same.long in
      let label : label_at xs p n ≡ label_at ys p n = ap (take (p + 1 + n - (p + 1))) (dropped same (p + 1) (omega arith)) in
      let P : List ℕ → Type 0 = λ first. NameAt ys p (first ∷ name) in
      subst P (sym label) (NameAt.label (sym (head_same same p l) ∙ h) (omega arith) (name_whole (omega arith) x after (omega arith)) small)
  name_whole l (NameAt.pointer h back x) (NameContinues.root g) e = absurd (cc)
  name_whole l (NameAt.pointer {name = name} h back x) (NameContinues.pointer g) e = let size = length-uncompressed name in absurd (not_one x (omega arith))
  name_whole l (NameAt.pointer h back x) (NameContinues.label g short within ends) e = absurd (cc)

  -- What has the layout in the first octets has it in the others, with the same parts.
  abbrev Same : Layout → ℕ → Type 0
  Same layout p = (r : ℕ) (parts : List Part) → DataAt xs layout p r parts → DataAt ys layout p r parts

  octets_step : (n : ℕ) (layout : Layout) (p : ℕ) → start ≤ p → Same layout (p + n) → (r : ℕ) (parts : List Part) → DataAt xs (Fixed n layout) p r parts → DataAt ys (Fixed n layout) p r parts
  octets_step n layout p l rest r [] h = absurd h
  octets_step n layout p l rest r (OctetsPart octets ∷ parts) h = (h.0, sym (ap (take (p + n - p)) (dropped same p l)) ∙ h.1, rest r parts h.2)
  octets_step n layout p l rest r (CompressibleName name ∷ parts) h = absurd h
  octets_step n layout p l rest r (UncompressedPart flag name ∷ parts) h = absurd h

  string_step : (layout : Layout) (p : ℕ) → start ≤ p → (p < length xs → Same layout (p + string_size xs p)) → (r : ℕ) (parts : List Part)
      → DataAt xs (CharacterString layout) p r parts → DataAt ys (CharacterString layout) p r parts
  string_step layout p l rest r [] h = absurd h
  string_step layout p l rest r (OctetsPart octets ∷ parts) h =
      let n = string_size xs p in
      let e : string_size xs p ≡ string_size ys p = ap (λ x. 1 + x) (octet_same p l) in
      let a = length-take (p + n - p) (drop p xs) in
      let d = length-drop p xs in
      let size = ap length h.1 in
      let whole = h.0 in
      let P : ℕ → Type 0 = λ n. (length octets ≡ n) × (slice_range ys p (p + n) ≡ octets) × DataAt ys layout (p + n) r parts in
      subst P e (h.0, sym (ap (take (p + n - p)) (dropped same p l)) ∙ h.1, rest (omega arith) r parts h.2)
  string_step layout p l rest r (CompressibleName name ∷ parts) h = absurd h
  string_step layout p l rest r (UncompressedPart flag name ∷ parts) h = absurd h

  sized_step : (layout : Layout) (p : ℕ) → start ≤ p → Same layout (p + octets_size xs p) → (r : ℕ) (parts : List Part)
      → DataAt xs (SizedOctets layout) p r parts → DataAt ys (SizedOctets layout) p r parts
  sized_step layout p l rest r [] h = absurd h
  sized_step layout p l rest r (OctetsPart octets ∷ parts) h =
      let n = octets_size xs p in
      let e : octets_size xs p ≡ octets_size ys p = (λ i. 2 + (octet_same p l i * 256 + octet_same (p + 1) (omega arith) i)) in
      let P : ℕ → Type 0 = λ n. (length octets ≡ n) × (slice_range ys p (p + n) ≡ octets) × DataAt ys layout (p + n) r parts in
      subst P e (h.0, sym (ap (take (p + n - p)) (dropped same p l)) ∙ h.1, rest r parts h.2)
  sized_step layout p l rest r (CompressibleName name ∷ parts) h = absurd h
  sized_step layout p l rest r (UncompressedPart flag name ∷ parts) h = absurd h

  name_step : (layout : Layout) (p : ℕ) → start ≤ p → ((name : Labels) → NameAt xs p name → NameAt ys p name) → ((r : ℕ) → start ≤ r → NameEndsAt xs p r → Same layout r)
      → (r : ℕ) (parts : List Part) → DataAt xs (DomainName layout) p r parts → DataAt ys (DomainName layout) p r parts
  name_step layout p l named rest r [] h = absurd h
  name_step layout p l named rest r (OctetsPart octets ∷ parts) h = absurd h
  name_step layout p l named rest r (CompressibleName name ∷ parts) h =
      let w = ends_after h.2 in (h.0, named name h.1, continues_same same l h.2, rest h.0 (omega arith) h.2 r parts h.3)
  name_step layout p l named rest r (UncompressedPart flag name ∷ parts) h = absurd h

  pointed_step : (pointers lowers : Bool) (layout : Layout) (p : ℕ) → start ≤ p → ((name : Labels) → NameAt xs p name → NameAt ys p name) → ((r : ℕ) → start ≤ r → NameEndsAt xs p r → Same layout r)
      → (r : ℕ) (parts : List Part) → DataAt xs (UncompressedDomainName pointers lowers layout) p r parts → DataAt ys (UncompressedDomainName pointers lowers layout) p r parts
  pointed_step pointers lowers layout p l named rest r [] h = absurd h
  pointed_step pointers lowers layout p l named rest r (OctetsPart octets ∷ parts) h = absurd h
  pointed_step pointers lowers layout p l named rest r (CompressibleName name ∷ parts) h = absurd h
  pointed_step pointers lowers layout p l named rest r (UncompressedPart flag name ∷ parts) h =
      let w = ends_after h.2 in (h.0, named name h.1, continues_same same l h.2, rest h.0 (omega arith) h.2 r parts h.3, h.4, h.5)

  whole_step : (lowers : Bool) (layout : Layout) (p : ℕ) → start ≤ p → ((r : ℕ) → start ≤ r → Same layout r)
      → (r : ℕ) (parts : List Part) → DataAt xs (UncompressedDomainName false lowers layout) p r parts → DataAt ys (UncompressedDomainName false lowers layout) p r parts
  whole_step lowers layout p l rest r [] h = absurd h
  whole_step lowers layout p l rest r (OctetsPart octets ∷ parts) h = absurd h
  whole_step lowers layout p l rest r (CompressibleName name ∷ parts) h = absurd h
  whole_step lowers layout p l rest r (UncompressedPart flag name ∷ parts) h =
      let w = ends_after h.2 in
      let all : h.0 ≡ p + length (uncompressed name) = eqb-true h.0 (p + length (uncompressed name)) h.5 in
      (h.0, name_whole l h.1 h.2 all, continues_same same l h.2, rest h.0 (omega arith) r parts h.3, h.4, h.5)

  rest_step : (test : List ℕ → Bool) (p : ℕ) → start ≤ p → (r : ℕ) (parts : List Part) → DataAt xs (RestLayout test) p r parts → DataAt ys (RestLayout test) p r parts
  rest_step test p l r parts h =
      let e = dropped same p l in
      (h.0 ∙ same.long, h.1 ∙ ap (λ (octets : List ℕ). OctetsPart octets ∷ []) e, subst (λ (octets : List ℕ). IsTrue (test octets)) e h.2)

  -- Fields without a name that may have a pointer.
  plain_field : (s : Shape) (test : List ℕ → Bool) (layout : Layout) (shapes : List Shape) (p : ℕ) → none_pointed (s ∷ shapes) ≡ true → start ≤ p
      → (none_pointed shapes ≡ true → (p : ℕ) → start ≤ p → Same layout p) → Same (field_layout s test layout) p
  plain_field (Octets n) test layout shapes p e l rest = octets_step n layout p l (rest e (p + n) (omega arith))
  plain_field Counted test layout shapes p e l rest = string_step layout p l (λ some. rest e (p + string_size xs p) (omega arith))
  plain_field Sized test layout shapes p e l rest = sized_step layout p l (rest e (p + octets_size xs p) (omega arith))
  plain_field Name test layout shapes p e l rest = absurd (false≢true e)
  plain_field (UncompressedName true lowers) test layout shapes p e l rest = absurd (false≢true e)
  plain_field (UncompressedName false lowers) test layout shapes p e l rest = whole_step lowers layout p l (λ r low. rest e r low)
  plain_field Rest test layout shapes p e l rest = rest_step test p l

  plain_fields : (kinds : List Kind) (p : ℕ) → none_pointed (map shape_of kinds) ≡ true → start ≤ p → Same (layout_of kinds) p
  unfolding layout_of
  plain_fields [] p e l = λ r parts h. h
  plain_fields (kind ∷ kinds) p e l =
      plain_field (shape_of kind) (accepts kind) (layout_of kinds) (map shape_of kinds) p e l (λ e p l. plain_fields kinds p e l)

  -- Names, and fields without a name that may have a pointer.
  named_field : (n : ℕ) (s : Shape) (test : List ℕ → Bool) (layout : Layout) (shapes : List Shape) (p : ℕ) → names_first (suc n) (s ∷ shapes) ≡ true → start ≤ p
      → Known xs ys start (suc n) p → (names_first n shapes ≡ true → (p : ℕ) → start ≤ p → Known xs ys start n p → Same layout p) → Same (field_layout s test layout) p
  named_field n (Octets k) test layout shapes p e l known rest = absurd (false≢true e)
  named_field n Counted test layout shapes p e l known rest = absurd (false≢true e)
  named_field n Sized test layout shapes p e l known rest = absurd (false≢true e)
  named_field n Name test layout shapes p e l known rest = let k = known l in name_step layout p l k.0 (λ r low ends. rest e r low (k.1 r ends))
  named_field n (UncompressedName pointers lowers) test layout shapes p e l known rest =
      let k = known l in pointed_step pointers lowers layout p l k.0 (λ r low ends. rest e r low (k.1 r ends))
  named_field n Rest test layout shapes p e l known rest = absurd (false≢true e)

  named_fields : (n : ℕ) (kinds : List Kind) (p : ℕ) → names_first n (map shape_of kinds) ≡ true → start ≤ p → Known xs ys start n p → Same (layout_of kinds) p
  unfolding layout_of
  named_fields zero kinds p e l known = plain_fields kinds p e l
  named_fields (suc n) [] p e l known = λ r parts h. h
  named_fields (suc n) (kind ∷ kinds) p e l known =
      named_field n (shape_of kind) (accepts kind) (layout_of kinds) (map shape_of kinds) p e l known (λ e p l known. named_fields n kinds p e l known)

  -- Fields before names, which begin where these say in the octets `b`.
  module _ (b : List ℕ) (sizes : (p : ℕ) → start ≤ p → p < length xs → slice_index xs p ≡ get_or b p 0) where
    first_field : (n : ℕ) (s : Shape) (test : List ℕ → Bool) (layout : Layout) (shapes : List Shape) (p : ℕ) → names_first n (from_name (s ∷ shapes)) ≡ true → start ≤ p
        → Known xs ys start n (names_after b (s ∷ shapes) p) → (names_first n (s ∷ shapes) ≡ true → Known xs ys start n p → Same (field_layout s test layout) p)
        → (names_first n (from_name shapes) ≡ true → (p : ℕ) → start ≤ p → Known xs ys start n (names_after b shapes p) → Same layout p) → Same (field_layout s test layout) p
    first_field n (Octets k) test layout shapes p e l known here rest = octets_step k layout p l (rest e (p + k) (omega arith) known)
    first_field n Counted test layout shapes p e l known here rest =
        string_step layout p l (λ some.
        let size = sizes p l some in
        let end : string_end b p ≡ p + string_size xs p = omega arith in
        subst (λ p. Same layout p) end (rest e (string_end b p) (omega arith) known))
    first_field n Sized test layout shapes p e l known here rest = here e known
    first_field n Name test layout shapes p e l known here rest = here e known
    first_field n (UncompressedName pointers lowers) test layout shapes p e l known here rest = here e known
    first_field n Rest test layout shapes p e l known here rest = here e known

    all_fields : (n : ℕ) (kinds : List Kind) (p : ℕ) → names_first n (from_name (map shape_of kinds)) ≡ true → start ≤ p → Known xs ys start n (names_after b (map shape_of kinds) p)
        → Same (layout_of kinds) p
    unfolding layout_of
    all_fields n [] p e l known = λ r parts h. h
    all_fields n (kind ∷ kinds) p e l known =
        first_field n (shape_of kind) (accepts kind) (layout_of kinds) (map shape_of kinds) p e l known (λ e known. named_fields n (kind ∷ kinds) p e l known)
        (λ e p l known. all_fields n kinds p e l known)

    -- RDATA of a type whose names are known.
    type_same : (n : ℕ) → Known xs ys start (name_count n) (names_start b n start) → Same (layout_of (kinds_of n)) start
    type_same n known =
        let has = type_has n in
        let there : (k : ℕ) → name_count n ≡ k → Known xs ys start (name_count n) (names_after b (map shape_of (kinds_of n)) start) =
        λ k. elim k as (λ k. name_count n ≡ k → Known xs ys start (name_count n) (names_after b (map shape_of (kinds_of n)) start)) [
          | zero ↦ λ nil. subst (λ k. Known xs ys start k (names_after b (map shape_of (kinds_of n)) start)) (sym nil) tt
          | suc k ↦ λ some. subst (λ p. Known xs ys start (name_count n) p) (has.start (λ nil. omega arith) b start) known
        ] in
        all_fields (name_count n) (kinds_of n) start has.fit (omega arith) (there (name_count n) refl)

-- names that are known
module _ {xs ys : List ℕ} {start : ℕ} {b fields : List ℕ} (ends : (p r : ℕ) → start ≤ p → NameEndsAt xs p r → NameEndsAt b p r)
    (named : (p : ℕ) → NameApart b fields p → (name : Labels) → NameAt xs p name → NameAt ys p name) where
  known_apart : {n p stop : ℕ} → Skipped (λ p q. NameEndsAt b p q × NameApart b fields p) n p stop → Known xs ys start n p
  known_apart none = tt
  known_apart (more {n = n} {p = p} {q = q} h x) = λ l. (named p h.1, λ r e. subst (λ r. Known xs ys start n r) (one_end b p q r h.0 (ends p r l e)) (known_apart x))

known_past : (b ys : List ℕ) (start e n p : ℕ) → e ≤ p → Known (take e b) ys start n p
known_past b ys start e zero p l = tt
known_past b ys start e (suc n) p l =
    λ low. (λ name x. absurd (no_name_past b e l x), λ r h. let w = ends_after h in known_past b ys start e n r (omega arith))

after_some : (p n : ℕ) → p ≤ p + n
after_some p n = omega arith

start_low : (b : List ℕ) (n p : ℕ) (naptr : Bool) → p ≤ cond naptr (string_end b (string_end b (string_end b (p + 4)))) (p + octets_before n)
start_low b n p true = omega arith
start_low b n p false = after_some p (octets_before n)

-- The octets of RDATA are the same in both, up to its end.
cut_from : (b c : List ℕ) (start end : ℕ) → length b ≡ length c → start ≤ end → slice_range c start end ≡ slice_range b start end → SameFrom (take end b) (take end c) start
cut_from b c start end long l e =
    let n = length-take end b in
    let m = length-take end c in
    let k : start + (end - start) ≡ end = omega arith in
    let at = λ (xs : List ℕ). ap (λ n. drop start (take n xs)) (sym k) ∙ drop-take start (end - start) xs in
    record { long = omega arith; octets = at b ∙ sym e ∙ sym (at c) }

back_from : {b c : List ℕ} {q : ℕ} → SameFrom b c q → SameFrom c b q
back_from same = record { long = sym same.long; octets = sym same.octets }

size_at : (b : List ℕ) (e p : ℕ) → p < length (take e b) → slice_index (take e b) p ≡ get_or b p 0
size_at b e p l =
    let n = length-take e b in
    sym (unwrap_or-slice_get (take e b) p 0) ∙ ap (λ o. unwrap_or o 0) (get_take b e p (omega arith)) ∙ unwrap_or-slice_get b p 0

-- The RDATA of each record has the layout of its type in both messages, or in neither.
pub rdata_laid_out_alike : RdataLaidOutAlike
rdata_laid_out_alike change b fields avoid k p q less y s =
    let c = with_ttls change fields b in
    let alike = rdata_reads_alike change b fields avoid k p q less y s in
    let n = number_at w16 b s.name_end in
    let start = s.name_end + 10 in
    let w = long_record b s in
    let low : start ≤ q = w.1 in
    let stays = with_ttls_same change fields b (fields_within b avoid.ttls) in
    let same : SameFrom (take q b) (take q c) start = cut_from b c start q stays.long low alike.1.octets in
    let back : SameFrom (take q c) (take q b) start = back_from same in
    let size = λ (p : ℕ) (l : start ≤ p) (m : p < length (take q b)). size_at b q p m in
    let long = same.long in
    let size_back = λ (p : ℕ) (l : start ≤ p) (m : p < length (take q c)). octet_same (take q c) (take q b) start back p l ∙ size_at b q p (omega arith) in
    let known : Known (take q b) (take q c) start (name_count n) (names_start b n start) × Known (take q c) (take q b) start (name_count n) (names_start b n start) =
    elim alike.0 [
      | inl e ↦
          let first = start_low b n start (nat_eq n 35) in
          let late : q ≤ names_start b n start = subst (λ k. k ≤ names_start b n start) e first in
          (known_past b (take q c) start q (name_count n) (names_start b n start) late, known_past c (take q b) start q (name_count n) (names_start b n start) late)
      | inr x ↦ (
        known_apart (λ p r l h. lift_ends b q h) (λ p apart name h. ((alike.1.names p apart).names name).0 h) x.2,
        known_apart (λ p r l h. lift_ends b q (continues_same back l h)) (λ p apart name h. ((alike.1.names p apart).names name).1 h) x.2,
      )
    ] in
    λ r parts. (
      λ h. (h.0, type_same (take q b) (take q c) start same b size n known.0 r parts h.1),
      λ h. (h.0, type_same (take q c) (take q b) start back b size_back n known.1 r parts h.1),
    )
