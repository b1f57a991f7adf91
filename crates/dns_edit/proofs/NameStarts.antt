-- Where the names in RDATA begin, by the fields of the record type.
use Rattle.std.proofs.Common.{◌≡◌, ◌≢◌, ◌∙◌, ℕ, ◌+◌, Bool, true, false, cond, List, [], ◌∷◌, All, add_assoc, ap, arith, refl, subst, sym}
use Rattle.std.proofs.lemmas.Bool.{and_parts, eqb-true, ne_eqb}
use Rattle.std.proofs.lemmas.List.Elements.{All-cons, All-nil}
use Rattle.std.proofs.lemmas.Slice.Eq.{bytes_eq-Decides}
use Rattle.std.specs.List.{list_all}
use Rattle.std.specs.Prelude.{◌&&◌, nat_eq}
use Rattle.std.specs.Str.{bytes_eq}
use Rattle.fields_table.specs.RecordTypes.{TypeDefinition, record_types}
use Rattle.fields_table.specs.declared.shape.Shape.{Shape}
use Rattle.fields_table.specs.declared.shape.Shape.TheVariants.{Octets, Counted}
use Rattle.dns_edit.specs.Fields.{BeginsAfterFields, NamesBeginAfterFields, names_after, shapes_of}
use Rattle.dns_edit.specs.Rdata.{name_count, octets_before, string_end}

-- the number of octets up to the first character string or name, and of those after each character string before a name
abbrev gaps : ℕ → List Shape → ℕ × List ℕ
gaps n [] = (n, [])
gaps n (Octets m ∷ shapes) = gaps (n + m) shapes
gaps n (Counted ∷ shapes) = let later = gaps 0 shapes in (n, later.0 ∷ later.1)
gaps n (_ ∷ shapes) = (n, [])

-- the offset after character strings, the first of which begins at p, each with octets after it
abbrev after_strings : List ℕ → List ℕ → ℕ → ℕ
after_strings b [] p = p
after_strings b (n ∷ ns) p = after_strings b ns (string_end b p + n)

abbrev after_gaps : List ℕ → ℕ × List ℕ → ℕ → ℕ
after_gaps b g p = after_strings b g.1 (p + g.0)

-- no octets more
none_more : (p : ℕ) → p ≡ p + 0
none_more p = omega arith

names_after-gaps : (b : List ℕ) (n : ℕ) (shapes : List Shape) (p : ℕ) → names_after b shapes (p + n) ≡ after_gaps b (gaps n shapes) p
names_after-gaps b n [] p = refl
names_after-gaps b n (Octets m ∷ shapes) p = ap (names_after b shapes) (add_assoc p n m) ∙ names_after-gaps b (n + m) shapes p
names_after-gaps b n (Counted ∷ shapes) p = ap (names_after b shapes) (none_more (string_end b (p + n))) ∙ names_after-gaps b 0 shapes (string_end b (p + n))
names_after-gaps b n (_ ∷ shapes) p = refl

-- the same by the type
abbrev gaps_of : ℕ → ℕ × List ℕ
gaps_of n = cond (nat_eq n 35) (4, 0 ∷ 0 ∷ 0 ∷ []) (octets_before n, [])

start_by : (b : List ℕ) (n p : ℕ) (naptr : Bool) → cond naptr (string_end b (string_end b (string_end b (p + 4)))) (p + octets_before n)
    ≡ after_gaps b (cond naptr (4, 0 ∷ 0 ∷ 0 ∷ []) (octets_before n, [])) p
start_by b n p true =
    let first = string_end b (p + 4) in
    let second = string_end b (first + 0) in
    ap (λ (q : ℕ). string_end b (string_end b q)) (none_more first) ∙ ap (string_end b) (none_more second) ∙ none_more (string_end b (second + 0))
start_by b n p false = refl

-- whether both are the same, if the type has names
abbrev agrees : TypeDefinition → Bool
agrees type =
    let by_number = gaps_of type.number in
    let by_fields = gaps 0 (shapes_of type.fields) in
    cond (nat_eq (name_count type.number) 0) true (nat_eq by_number.0 by_fields.0 && bytes_eq by_number.1 by_fields.1)

-- a test that counts if a number isn't 0
counts : (n : ℕ) (test : Bool) → n ≢ 0 → cond (nat_eq n 0) true test ≡ true → test ≡ true
counts n test some e = subst (λ (b : Bool). cond b true test ≡ true) (ne_eqb n 0 some) e

begins : (type : TypeDefinition) → agrees type ≡ true → BeginsAfterFields type
begins type e some b p =
    let by_number = gaps_of type.number in
    let by_fields = gaps 0 (shapes_of type.fields) in
    let parts = and_parts (nat_eq by_number.0 by_fields.0) (bytes_eq by_number.1 by_fields.1) (counts (name_count type.number) _ some e) in
    let first = eqb-true by_number.0 by_fields.0 parts.0 in
    let others = (bytes_eq-Decides by_number.1 by_fields.1).0 parts.1 in
    start_by b type.number p (nat_eq type.number 35)
    ∙ (λ i. after_strings b (others i) (p + first i))
    ∙ sym (names_after-gaps b 0 (shapes_of type.fields) p)
    ∙ ap (names_after b (shapes_of type.fields)) (sym (none_more p))

all_begin : (types : List TypeDefinition) → list_all agrees types ≡ true → All BeginsAfterFields types
all_begin [] e = All-nil BeginsAfterFields
all_begin (type ∷ types) e =
    let both = and_parts (agrees type) (list_all agrees types) e in
    All-cons BeginsAfterFields type types (begins type both.0) (all_begin types both.1)

all_agree : list_all agrees record_types ≡ true
unfolding record_types
all_agree = refl

-- The names of each type begin after the fields before them.
pub names_begin : NamesBeginAfterFields
names_begin = all_begin record_types all_agree
