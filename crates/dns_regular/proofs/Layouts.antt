-- RDATA that has the layout of its type has the names of its type.
use Rattle.std.proofs.Common.{◌≡◌, ◌≢◌, ◌∙◌, ℕ, zero, suc, ◌+◌, ◌-◌, ◌<◌, ◌≤◌, ◌==◌, Bool, true, false, cond, List, [], ◌∷◌, ◌++◌, length, length-append, append_assoc, refl, sym, ap, subst, arith}
use Rattle.std.specs.Prelude.{◌&&◌, ◌||◌, get_or, nat_eq, nat_le}
use Rattle.std.specs.List.{list_all, list_any}
use Rattle.std.proofs.lemmas.Bool.{and_parts, eqb-true, eq-eqb, false≢true}
use Rattle.std.proofs.lemmas.Bool.Decides.{nat_tests}
use Rattle.std.proofs.lemmas.List.{get_or-append-add, get_or_append_left}
use Rattle.dns_wire.specs.Parts.{Part, Octets, CompressibleName, UncompressedName}
use Rattle.dns_data.specs.Layout.{Layout, End, Rest, AtMost, Fixed, CharacterString, SizedOctets, DomainName, UncompressedDomainName, IsLaidOut, string_size}
use Rattle.dns_item.specs.Items.{RecordItem}
use Rattle.fields_table.specs.FieldData.{type_layout}
use Rattle.fields_table.specs.Layouts.{layout_of}
use Rattle.fields_table.specs.RecordTypes.{TypeDefinition, record_types}
use Rattle.fields_table.specs.Table.{definitions_of, fields_in, kinds_in, kinds_of}
use Rattle.dns_edit.specs.Rdata.{name_count, names_start, octets_before, string_end}
use Rattle.dns_edit.proofs.theory.NamedTypes.{named_in_table}
use Rattle.dns_regular.specs.Built.{HasItsNames, octets_first, from_name, NoneCompressible, NamesFirst}

-- What a layout says of its names.

-- whether none of the fields is a name that may be compressed
abbrev none_compressible : Layout → Bool
none_compressible End = true
none_compressible (Rest accepts) = true
none_compressible (AtMost n layout) = none_compressible layout
none_compressible (Fixed n layout) = none_compressible layout
none_compressible (CharacterString layout) = none_compressible layout
none_compressible (SizedOctets layout) = none_compressible layout
none_compressible (DomainName layout) = false
none_compressible (UncompressedDomainName pointers lowercased layout) = none_compressible layout

-- whether the fields are n names, and others of which none may be compressed
abbrev names_first : ℕ → Layout → Bool
names_first zero layout = none_compressible layout
names_first (suc n) (DomainName layout) = names_first n layout
names_first (suc n) (UncompressedDomainName pointers lowercased layout) = names_first n layout
names_first (suc n) _ = false

-- whether the first fields take so many octets, and then come n names
abbrev octets_then : ℕ → ℕ → Layout → Bool
octets_then before n (Fixed k layout) = nat_le k before && octets_then (before - k) n layout
octets_then before n (DomainName layout) = nat_eq before 0 && names_first n (DomainName layout)
octets_then before n (UncompressedDomainName pointers lowercased layout) = nat_eq before 0 && names_first n (UncompressedDomainName pointers lowercased layout)
octets_then before n _ = false

-- whether the layout has the names of the type; that of NAPTR (35) is looked at below
abbrev fits : ℕ → Layout → Bool
fits n layout = cond (nat_eq (name_count n) 0) (none_compressible layout) (cond (nat_eq n 35) true (octets_then (octets_before n) (name_count n) layout))

abbrev row_fits : TypeDefinition → Bool
row_fits type = fits type.number (layout_of (kinds_in type.fields))

rows_fit : list_all row_fits record_types ≡ true
unfolding record_types layout_of
rows_fit = refl

-- A type that isn't in the table has no names.
fits_by : (n : ℕ) (type : TypeDefinition) (types : List TypeDefinition) (same : Bool) → (type.number == n) ≡ same → row_fits type ≡ true
    → ((name_count n ≢ 0 → list_any (λ type. type.number == n) types ≡ true) → fits n (layout_of (kinds_in (fields_in types n))) ≡ true)
    → (name_count n ≢ 0 → same || list_any (λ type. type.number == n) types ≡ true)
    → fits n (layout_of (kinds_in (cond same type.fields (fields_in types n)))) ≡ true
fits_by n type types true e fit rest there = subst (λ (k : ℕ). fits k (layout_of (kinds_in type.fields)) ≡ true) (eqb-true type.number n e) fit
fits_by n type types false e fit rest there = rest there

nil_fits : (n : ℕ) (nil : Bool) → nat_eq (name_count n) 0 ≡ nil → (name_count n ≢ 0 → false ≡ true) → cond nil true (cond (nat_eq n 35) true false) ≡ true
nil_fits n true e there = refl
nil_fits n false e there = absurd (false≢true (there (λ nil. false≢true (sym e ∙ eq-eqb (name_count n) 0 nil))))

table_fits : (types : List TypeDefinition) (n : ℕ) → list_all row_fits types ≡ true → (name_count n ≢ 0 → list_any (λ type. type.number == n) types ≡ true)
    → fits n (layout_of (kinds_in (fields_in types n))) ≡ true
unfolding layout_of
table_fits [] n all there = nil_fits n (nat_eq (name_count n) 0) refl there
table_fits (type ∷ types) n all there =
    let both = and_parts (row_fits type) (list_all row_fits types) all in
    fits_by n type types (type.number == n) refl both.0 (table_fits types n both.1) there

-- The layout of each type has its names.
type_fits : (n : ℕ) → fits n (layout_of (kinds_of n)) ≡ true
unfolding definitions_of
type_fits n = table_fits record_types n rows_fit (named_in_table n)

-- What parts with such a layout are.

parts_of_none : (layout : Layout) (parts : List Part) → none_compressible layout ≡ true → IsLaidOut layout parts → NoneCompressible parts
parts_of_none End parts e h = subst NoneCompressible (sym h) tt
parts_of_none (Rest accepts) parts e h = subst NoneCompressible (sym h.1) tt
parts_of_none (AtMost n layout) parts e h = parts_of_none layout parts e h.1
parts_of_none (Fixed n layout) [] e h = absurd h
parts_of_none (Fixed n layout) (Octets octets ∷ parts) e h = parts_of_none layout parts e h.1
parts_of_none (Fixed n layout) (CompressibleName name ∷ parts) e h = absurd h
parts_of_none (Fixed n layout) (UncompressedName flag name ∷ parts) e h = absurd h
parts_of_none (CharacterString layout) [] e h = absurd h
parts_of_none (CharacterString layout) (Octets octets ∷ parts) e h = parts_of_none layout parts e h.1
parts_of_none (CharacterString layout) (CompressibleName name ∷ parts) e h = absurd h
parts_of_none (CharacterString layout) (UncompressedName flag name ∷ parts) e h = absurd h
parts_of_none (SizedOctets layout) [] e h = absurd h
parts_of_none (SizedOctets layout) (Octets octets ∷ parts) e h = parts_of_none layout parts e h.1
parts_of_none (SizedOctets layout) (CompressibleName name ∷ parts) e h = absurd h
parts_of_none (SizedOctets layout) (UncompressedName flag name ∷ parts) e h = absurd h
parts_of_none (DomainName layout) parts e h = absurd (false≢true e)
parts_of_none (UncompressedDomainName pointers lowercased layout) [] e h = absurd h
parts_of_none (UncompressedDomainName pointers lowercased layout) (Octets octets ∷ parts) e h = absurd h
parts_of_none (UncompressedDomainName pointers lowercased layout) (CompressibleName name ∷ parts) e h = absurd h
parts_of_none (UncompressedDomainName pointers lowercased layout) (UncompressedName flag name ∷ parts) e h = parts_of_none layout parts e h.1

none_from : (parts : List Part) → NoneCompressible parts → NoneCompressible (from_name parts)
none_from [] h = h
none_from (Octets octets ∷ parts) h = none_from parts h
none_from (CompressibleName name ∷ parts) h = absurd h
none_from (UncompressedName flag name ∷ parts) h = h

parts_of_names : (n : ℕ) (layout : Layout) (parts : List Part) → names_first n layout ≡ true → IsLaidOut layout parts → NamesFirst n parts
parts_of_names zero layout parts e h = parts_of_none layout parts e h
parts_of_names (suc n) (DomainName layout) [] e h = absurd h
parts_of_names (suc n) (DomainName layout) (Octets octets ∷ parts) e h = absurd h
parts_of_names (suc n) (DomainName layout) (CompressibleName name ∷ parts) e h = parts_of_names n layout parts e h
parts_of_names (suc n) (DomainName layout) (UncompressedName flag name ∷ parts) e h = absurd h
parts_of_names (suc n) (UncompressedDomainName pointers lowercased layout) [] e h = absurd h
parts_of_names (suc n) (UncompressedDomainName pointers lowercased layout) (Octets octets ∷ parts) e h = absurd h
parts_of_names (suc n) (UncompressedDomainName pointers lowercased layout) (CompressibleName name ∷ parts) e h = absurd h
parts_of_names (suc n) (UncompressedDomainName pointers lowercased layout) (UncompressedName flag name ∷ parts) e h = parts_of_names n layout parts e h.1
parts_of_names (suc n) End parts e h = absurd (false≢true e)
parts_of_names (suc n) (Rest accepts) parts e h = absurd (false≢true e)
parts_of_names (suc n) (AtMost k layout) parts e h = absurd (false≢true e)
parts_of_names (suc n) (Fixed k layout) parts e h = absurd (false≢true e)
parts_of_names (suc n) (CharacterString layout) parts e h = absurd (false≢true e)
parts_of_names (suc n) (SizedOctets layout) parts e h = absurd (false≢true e)

-- the first octets, and the names after them
record OctetsThenNames (before n : ℕ) (parts : List Part) : Type 0 where
  size : length (octets_first parts) ≡ before
  names : NamesFirst n (from_name parts)

parts_of_octets : (before n : ℕ) (layout : Layout) (parts : List Part) → octets_then before n layout ≡ true → IsLaidOut layout parts → OctetsThenNames before n parts
parts_of_octets before n (Fixed k layout) [] e h = absurd h
parts_of_octets before n (Fixed k layout) (Octets octets ∷ parts) e h =
    let both = and_parts (nat_le k before) (octets_then (before - k) n layout) e in
    let low : k ≤ before = let some = both.0 in grind (arith, nat_tests) in
    let rest = parts_of_octets (before - k) n layout parts both.1 h.1 in
    record { size = length-append octets (octets_first parts) ∙ omega (arith, low, h.0, rest.size); names = rest.names }
parts_of_octets before n (Fixed k layout) (CompressibleName name ∷ parts) e h = absurd h
parts_of_octets before n (Fixed k layout) (UncompressedName flag name ∷ parts) e h = absurd h
parts_of_octets before n (DomainName layout) [] e h = absurd h
parts_of_octets before n (DomainName layout) (Octets octets ∷ parts) e h = absurd h
parts_of_octets before n (DomainName layout) (CompressibleName name ∷ parts) e h =
    let both = and_parts (nat_eq before 0) (names_first n (DomainName layout)) e in
    record { size = sym (eqb-true before 0 both.0); names = parts_of_names n (DomainName layout) (CompressibleName name ∷ parts) both.1 h }
parts_of_octets before n (DomainName layout) (UncompressedName flag name ∷ parts) e h = absurd h
parts_of_octets before n (UncompressedDomainName pointers lowercased layout) [] e h = absurd h
parts_of_octets before n (UncompressedDomainName pointers lowercased layout) (Octets octets ∷ parts) e h = absurd h
parts_of_octets before n (UncompressedDomainName pointers lowercased layout) (CompressibleName name ∷ parts) e h = absurd h
parts_of_octets before n (UncompressedDomainName pointers lowercased layout) (UncompressedName flag name ∷ parts) e h =
    let both = and_parts (nat_eq before 0) (names_first n (UncompressedDomainName pointers lowercased layout)) e in
    record { size = sym (eqb-true before 0 both.0); names = parts_of_names n (UncompressedDomainName pointers lowercased layout) (UncompressedName flag name ∷ parts) both.1 h }
parts_of_octets before n End parts e h = absurd (false≢true e)
parts_of_octets before n (Rest accepts) parts e h = absurd (false≢true e)
parts_of_octets before n (AtMost k layout) parts e h = absurd (false≢true e)
parts_of_octets before n (CharacterString layout) parts e h = absurd (false≢true e)
parts_of_octets before n (SizedOctets layout) parts e h = absurd (false≢true e)

-- NAPTR: four octets, three character strings, and a name. RFC 3403 section 4.1

record FirstPart (size : List ℕ → ℕ) (layout : Layout) (parts : List Part) : Type 0 where
  octets : List ℕ
  rest : List Part
  is : parts ≡ Octets octets ∷ rest
  length_is : length octets ≡ size octets
  laid_out : IsLaidOut layout rest

first_fixed : (n : ℕ) (layout : Layout) (parts : List Part) → IsLaidOut (Fixed n layout) parts → FirstPart (λ octets. n) layout parts
first_fixed n layout [] h = absurd h
first_fixed n layout (Octets octets ∷ parts) h = record { octets = octets; rest = parts; is = refl; length_is = h.0; laid_out = h.1 }
first_fixed n layout (CompressibleName name ∷ parts) h = absurd h
first_fixed n layout (UncompressedName flag name ∷ parts) h = absurd h

first_string : (layout : Layout) (parts : List Part) → IsLaidOut (CharacterString layout) parts → FirstPart (λ octets. string_size octets 0) layout parts
first_string layout [] h = absurd h
first_string layout (Octets octets ∷ parts) h = record { octets = octets; rest = parts; is = refl; length_is = h.0; laid_out = h.1 }
first_string layout (CompressibleName name ∷ parts) h = absurd h
first_string layout (UncompressedName flag name ∷ parts) h = absurd h

-- the parts begin where those of NAPTR do, and have its name
record IsNaptr (parts : List Part) : Type 0 where
  start : names_start (octets_first parts) 35 0 ≡ length (octets_first parts)
  names : NamesFirst 1 (from_name parts)

last_name : (pointers lowercased : Bool) (layout : Layout) (parts : List Part) → none_compressible layout ≡ true → IsLaidOut (UncompressedDomainName pointers lowercased layout) parts
    → (octets_first parts ≡ []) × (from_name parts ≡ parts) × NamesFirst 1 parts
last_name pointers lowercased layout [] e h = absurd h
last_name pointers lowercased layout (Octets octets ∷ parts) e h = absurd h
last_name pointers lowercased layout (CompressibleName name ∷ parts) e h = absurd h
last_name pointers lowercased layout (UncompressedName flag name ∷ parts) e h = (refl, refl, parts_of_none layout parts e h.1)

-- the end of a character string that stands after other octets
string_end_after : (before string after : List ℕ) → length string ≡ string_size string 0
    → string_end (before ++ (string ++ after)) (length before) ≡ length before + length string
string_end_after before string after is =
    let some : 0 < length string = omega arith in
    let here : length before ≡ length before + 0 = omega arith in
    let first : get_or (before ++ (string ++ after)) (length before) 0 ≡ get_or string 0 0 =
    ap (λ (k : ℕ). get_or (before ++ (string ++ after)) k 0) here ∙ (get_or-append-add before (string ++ after) 0 0 ∙ get_or_append_left string after 0 0 some) in
    omega (arith, first, is)

string_end_at : (front before string after : List ℕ) (p : ℕ) → front ≡ before ++ (string ++ after) → p ≡ length before → length string ≡ string_size string 0
    → string_end front p ≡ p + length string
string_end_at front before string after p whole place is =
    ap (λ (octets : List ℕ). string_end octets p) whole
    ∙ (ap (string_end (before ++ (string ++ after))) place ∙ (string_end_after before string after is ∙ ap (λ (k : ℕ). k + length string) (sym place)))

naptr_start : (a b c d e after : List ℕ) → length a ≡ 2 → length b ≡ 2 → length c ≡ string_size c 0 → length d ≡ string_size d 0 → length e ≡ string_size e 0 → after ≡ []
    → names_start (a ++ (b ++ (c ++ (d ++ (e ++ after))))) 35 0 ≡ length (a ++ (b ++ (c ++ (d ++ (e ++ after)))))
naptr_start a b c d e after two_a two_b is_c is_d is_e none =
    let front = a ++ (b ++ (c ++ (d ++ (e ++ after)))) in
    let ab = a ++ b in
    let abc = ab ++ c in
    let abcd = abc ++ d in
    let n_ab = length-append a b in
    let n_abc = length-append ab c in
    let n_abcd = length-append abc d in
    let w1 : front ≡ ab ++ (c ++ (d ++ (e ++ after))) = sym (append_assoc a b (c ++ (d ++ (e ++ after)))) in
    let w2 : front ≡ abc ++ (d ++ (e ++ after)) = w1 ∙ sym (append_assoc ab c (d ++ (e ++ after))) in
    let w3 : front ≡ abcd ++ (e ++ after) = w2 ∙ sym (append_assoc abc d (e ++ after)) in
    let e1 = string_end_at front ab c (d ++ (e ++ after)) 4 w1 (omega (arith, n_ab)) is_c in
    let e2 = string_end_at front abc d (e ++ after) (4 + length c) w2 (omega (arith, n_ab, n_abc)) is_d in
    let e3 = string_end_at front abcd e after (4 + length c + length d) w3 (omega (arith, n_ab, n_abc, n_abcd)) is_e in
    let whole = ap length w3 ∙ length-append abcd (e ++ after) in
    let last = length-append e after in
    let nothing = ap length none in
    ap (λ (k : ℕ). string_end front (string_end front k)) e1 ∙ (ap (string_end front) e2 ∙ (e3 ∙ omega (arith, n_ab, n_abc, n_abcd, whole, last, nothing)))

naptr_parts : (pointers lowercased : Bool) (layout : Layout) (parts : List Part) → none_compressible layout ≡ true
    → IsLaidOut (Fixed 2 (Fixed 2 (CharacterString (CharacterString (CharacterString (UncompressedDomainName pointers lowercased layout)))))) parts → IsNaptr parts
naptr_parts pointers lowercased layout parts e h =
    let name_layout = UncompressedDomainName pointers lowercased layout in
    let a = first_fixed 2 (Fixed 2 (CharacterString (CharacterString (CharacterString name_layout)))) parts h in
    let b = first_fixed 2 (CharacterString (CharacterString (CharacterString name_layout))) a.rest a.laid_out in
    let c = first_string (CharacterString (CharacterString name_layout)) b.rest b.laid_out in
    let d = first_string (CharacterString name_layout) c.rest c.laid_out in
    let s = first_string name_layout d.rest d.laid_out in
    let last = last_name pointers lowercased layout s.rest e s.laid_out in
    let whole : parts ≡ Octets a.octets ∷ Octets b.octets ∷ Octets c.octets ∷ Octets d.octets ∷ Octets s.octets ∷ s.rest =
    a.is ∙ ap (λ (rest : List Part). Octets a.octets ∷ rest)
    (b.is ∙ ap (λ (rest : List Part). Octets b.octets ∷ rest)
    (c.is ∙ ap (λ (rest : List Part). Octets c.octets ∷ rest) (d.is ∙ ap (λ (rest : List Part). Octets d.octets ∷ rest) s.is))) in
    subst IsNaptr (sym whole) (record {
      start = naptr_start a.octets b.octets c.octets d.octets s.octets (octets_first s.rest) a.length_is b.length_is c.length_is d.length_is s.length_is last.0;
      names = subst (NamesFirst 1) (sym last.1) last.2;
    })

is_naptr : (parts : List Part) → IsLaidOut (layout_of (kinds_of 35)) parts → IsNaptr parts
unfolding layout_of definitions_of record_types
is_naptr parts h = naptr_parts true true End parts refl h

-- RDATA of other types: by their layouts.
by_layout : (n : ℕ) (parts : List Part) (nil naptr : Bool) → nat_eq (name_count n) 0 ≡ nil → nat_eq n 35 ≡ naptr
    → cond nil (none_compressible (layout_of (kinds_of n))) (cond naptr true (octets_then (octets_before n) (name_count n) (layout_of (kinds_of n)))) ≡ true
    → IsLaidOut (layout_of (kinds_of n)) parts
    → (name_count n ≢ 0 → names_start (octets_first parts) n 0 ≡ length (octets_first parts)) × NamesFirst (name_count n) (from_name parts)
by_layout n parts true naptr e is fit h =
    let nil = eqb-true (name_count n) 0 e in (
      λ some. absurd (some nil),
      subst (λ (k : ℕ). NamesFirst k (from_name parts)) (sym nil) (none_from parts (parts_of_none (layout_of (kinds_of n)) parts fit h)),
    )
by_layout n parts false true e is fit h =
    let same = eqb-true n 35 is in
    let found = is_naptr parts (subst (λ (k : ℕ). IsLaidOut (layout_of (kinds_of k)) parts) same h) in
    subst (λ (k : ℕ). (name_count k ≢ 0 → names_start (octets_first parts) k 0 ≡ length (octets_first parts)) × NamesFirst (name_count k) (from_name parts)) (sym same)
    (λ some. found.start, found.names)
by_layout n parts false false e is fit h =
    let found = parts_of_octets (octets_before n) (name_count n) (layout_of (kinds_of n)) parts fit h in (
      λ some. ap (λ (b : Bool). cond b (string_end (octets_first parts) (string_end (octets_first parts) (string_end (octets_first parts) 4)))
          (0 + octets_before n)) is ∙ omega (arith, found.size),
      found.names,
    )

-- A record whose RDATA has the layout of its type has its names.
pub laid_out_has_names : (x : RecordItem) → IsLaidOut (type_layout x.rtype) x.parts → HasItsNames x
laid_out_has_names x h =
    let found = by_layout x.rtype x.parts (nat_eq (name_count x.rtype) 0) (nat_eq x.rtype 35) refl refl (type_fits x.rtype) h.1 in
    record { start = λ some size. found.0 some; names = λ size. found.1 }
