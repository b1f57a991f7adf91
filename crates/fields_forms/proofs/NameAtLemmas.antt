-- The uncompressed name at the start of octets.
use Rattle.std.proofs.Common.{◌≡◌, ◌∙◌, ℕ, zero, suc, ◌+◌, ◌<◌, ◌≤◌, true, false, List, [], ◌∷◌, ◌++◌, length, length-append, length-drop, take, drop, append_assoc, refl, sym, ap, subst, arith, nat_eq}
use Rattle.std.specs.Prelude.{All, Option, Some, None, nat_le, ◌&&◌, slice_get}
use Rattle.std.proofs.lemmas.Bool.{le-leb, and_from, ne_eqb}
use Rattle.std.proofs.lemmas.List.{take_at, drop_at, take-append-drop, drop-drop}
use Rattle.std.proofs.lemmas.List.Elements.{All-head, All-tail}
use Rattle.std.proofs.lemmas.Option.{slice_get_within}
use Rattle.dns_name.specs.Names.{Labels, IsLabel, IsName, name_size, max_size, uncompressed, Fault, NameContinues, NameEndsAt, SkipFaultAt}
use Rattle.dns_name.specs.Uncompressed.{IsUncompressed}
use Rattle.dns_name.proofs.theory.ExtentLaws.{end_or_fault, one_end}
use Rattle.dns_name.proofs.theory.HeadLemmas.{root_begins, label_begins}
use Rattle.dns_name.proofs.theory.LabelsLemmas.{length-uncompressed}
use Rattle.dns_name.proofs.theory.UncompressedNames.{get_drop}
use Rattle.fields_forms.specs.PlainNames.{can_follow}
use Rattle.fields_forms.specs.GatewayTexts.{labels_at, name_at}
use Rattle.fields_forms.proofs.FoundNames.{with_label, found_at}

-- An uncompressed name is found.

label_found : (size n : ℕ) (octets : List ℕ) → 1 ≤ n → n ≤ 63 → size + 1 + n ≤ 254 → n ≤ length octets
    → (nat_eq n 0 ≡ false) × ((can_follow size n && nat_le n (length octets)) ≡ true)
label_found size n octets some short fits enough = (
  ne_eqb n 0 (λ e. omega arith),
  and_from (can_follow size n) (nat_le n (length octets)) (and_from (nat_le n 63) (nat_le (size + 1 + n) 254) (le-leb n 63 short) (le-leb (size + 1 + n) 254 fits)) (le-leb n (length octets) enough),
)

-- a label, and the labels after it
label_step : (count size n : ℕ) (octets : List ℕ) → (nat_eq n 0 ≡ false) × ((can_follow size n && nat_le n (length octets)) ≡ true)
    → labels_at (suc count) size (n ∷ octets) ≡ with_label (take n octets) (labels_at count (size + 1 + n) (drop n octets))
label_step count size n octets h = rw (h.0, h.1) refl

found_from : (name : Labels) (count size : ℕ) (after : List ℕ) → All IsLabel name → size + name_size name ≤ 254 → length name < count
    → labels_at count size (uncompressed name ++ after) ≡ Some (name, after)
found_from name zero size after labels short few = absurd (omega arith)
found_from [] (suc count) size after labels short few = refl
found_from (label ∷ name) (suc count) size after labels short few =
    let n : ℕ = length label in
    let is = All-head IsLabel label name labels in
    let octets : List ℕ = (label ++ uncompressed name) ++ after in
    let same : octets ≡ label ++ (uncompressed name ++ after) = append_assoc label (uncompressed name) after in
    let enough : n ≤ length octets = omega (arith, ap length same, length-append label (uncompressed name ++ after)) in
    let first : take n octets ≡ label = ap (take n) same ∙ take_at label (uncompressed name ++ after) n refl in
    let rest : drop n octets ≡ uncompressed name ++ after = ap (drop n) same ∙ drop_at label (uncompressed name ++ after) n refl in
    label_step count size n octets (label_found size n octets is.some is.short (omega arith) enough)
    ∙ ap (λ (l : List ℕ). with_label l (labels_at count (size + 1 + n) (drop n octets))) first
    ∙ ap (λ (r : List ℕ). with_label label (labels_at count (size + 1 + n) r)) rest
    ∙ ap (with_label label) (found_from name count (size + 1 + n) after (All-tail IsLabel label name labels) (omega arith) (omega arith))

few_labels : (name : Labels) → length name ≤ name_size name
few_labels [] = omega arith
few_labels (label ∷ name) = let others = few_labels name in omega arith

-- octets that begin with an uncompressed name: it is the one that is found
pub name_found : (name : Labels) (octets after : List ℕ) → IsName name → octets ≡ uncompressed name ++ after → name_at octets ≡ Some (name, after)
name_found name octets after is e =
    let size = ap length e in
    let few : length name < length octets = omega (arith, size, length-append (uncompressed name) after, length-uncompressed name, few_labels name) in
    ap (labels_at (length octets) 0) e ∙ found_from name (length octets) 0 after is.labels (omega (arith, is.short)) few

-- the octets begin with the name that is found
pub name_is_found : (octets after : List ℕ) (name : Labels) → name_at octets ≡ Some (name, after) → (octets ≡ uncompressed name ++ after) × IsName name
name_is_found octets after name e =
    let found = found_at (length octets) 0 octets after name (omega arith) e in
    (found.whole, record { labels = found.labels; short = omega (arith, found.short) })

-- The encoding of an uncompressed name ends before the octets after it.
ends_from : (b : List ℕ) (p s : ℕ) (name : Labels) (after : List ℕ) → All IsLabel name → s + name_size name ≤ max_size → drop p b ≡ uncompressed name ++ after
    → NameContinues b p s (p + (name_size name + 1))
ends_from b p s [] after labels short e = NameContinues.root (root_begins b p (get_drop b p 0 after e))
ends_from b p s (label ∷ name) after labels short e =
    let n : ℕ = length label in
    let is = All-head IsLabel label name labels in
    let there : slice_get b p ≡ Some n = get_drop b p n ((label ++ uncompressed name) ++ after) e in
    let within = slice_get_within b p n there in
    let next : drop (p + 1) b ≡ (label ++ uncompressed name) ++ after = sym (drop-drop 1 p b) ∙ ap (drop 1) e in
    let next_is : drop (p + 1) b ≡ label ++ (uncompressed name ++ after) = next ∙ append_assoc label (uncompressed name) after in
    let size : length (drop (p + 1) b) ≡ n + length (uncompressed name ++ after) = ap length next_is ∙ length-append label (uncompressed name ++ after) in
    let fits : p + 1 + n ≤ length b = omega (arith, size, length-drop (p + 1) b) in
    let rest : drop (p + 1 + n) b ≡ uncompressed name ++ after = sym (drop-drop n (p + 1) b) ∙ ap (drop n) next_is ∙ drop_at label (uncompressed name ++ after) n refl in
    let end : p + 1 + n + (name_size name + 1) ≡ p + (n + 1 + name_size name + 1) = omega arith in
    NameContinues.label (label_begins b p n is.some is.short there) (omega arith) fits
    (subst (λ q. NameContinues b (p + 1 + n) (s + n + 1) q) end (ends_from b (p + 1 + n) (s + n + 1) name after (All-tail IsLabel label name labels) (omega arith) rest))

-- a name that octets begin with ends after its labels and the root label
pub name_ends : (octets after : List ℕ) (name : Labels) → IsName name → octets ≡ uncompressed name ++ after → NameEndsAt octets 0 (name_size name + 1)
name_ends octets after name is e =
    let zero_more : 0 + (name_size name + 1) ≡ name_size name + 1 = omega arith in
    subst (λ q. NameContinues octets 0 0 q) zero_more (ends_from octets 0 0 name after is.labels (omega (arith, is.short)) e)

-- No name is found.
none_from : (octets : List ℕ) (o : Option (Labels × List ℕ)) → name_at octets ≡ o → ((name : Labels) (after : List ℕ) → octets ≡ uncompressed name ++ after → IsName name → ⊥) → o ≡ None
none_from octets None e never = refl
none_from octets (Some (name, after)) e never = let found = name_is_found octets after name e in absurd (never name after found.0 found.1)

none_unless : (octets : List ℕ) → ((name : Labels) (after : List ℕ) → octets ≡ uncompressed name ++ after → IsName name → ⊥) → name_at octets ≡ None
none_unless octets never = none_from octets (name_at octets) refl never

-- skipping fails
pub none_at_fault : (octets : List ℕ) (f : Fault) → SkipFaultAt octets 0 f → name_at octets ≡ None
none_at_fault octets f fault = none_unless octets (λ name after e is. end_or_fault octets (name_ends octets after name is e) fault)

-- the encoding of a name has a pointer
pub none_if_compressed : (octets : List ℕ) (q : ℕ) → NameEndsAt octets 0 q → (IsUncompressed (take q octets) → ⊥) → name_at octets ≡ None
none_if_compressed octets q ends never =
    none_unless octets
    (λ name after e is.
    let end : q ≡ name_size name + 1 = one_end octets ends (name_ends octets after name is e) in
    let front : take q octets ≡ uncompressed name = ap (take q) e ∙ take_at (uncompressed name) after q (length-uncompressed name ∙ sym end) in
    never (name, is, sym front))

-- the name that the first q octets are
pub name_at_front : (octets front after : List ℕ) (q : ℕ) (name : Labels) → IsName name → front ≡ take q octets → after ≡ drop q octets
    → uncompressed name ≡ front → name_at octets ≡ Some (name, after)
name_at_front octets front after q name is front_is after_is e =
    let whole : octets ≡ uncompressed name ++ after =
    sym (take-append-drop q octets) ∙ ap (λ (xs : List ℕ). xs ++ drop q octets) (sym (e ∙ front_is)) ∙ ap (λ (xs : List ℕ). uncompressed name ++ xs) (sym after_is) in
    name_found name octets after is whole
