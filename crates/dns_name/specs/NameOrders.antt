-- How labels and names compare, and what they write into a hasher. ASCII case is ignored: RFC 1035 section 2.3.3.
use Rattle.std.specs.Prelude.{ℕ, Bool, List, reverse, ◌==◌, ◌≡◌, [], ◌∷◌, ◌++◌, map, IsTrue}
use Rattle.std.specs.Cmp.Lexicographic.{pointwise, slice_cmp, pointwise_decides, bytes_decides, lists_equiv, lists_total, lists_ties, nat_list_eq_equiv, nat_list_cmp_total, texts_ties}
use Rattle.std.specs.List.{flat_map}
use Rattle.std.specs.Ordering.{nat_cmp, on, as_partial_cmp, ordering_then, is_eq, eq_by_cmp}
use Rattle.std.specs.declared.cmp.Ordering.{Ordering}
use Rattle.std.proofs.Common.{refl, sym, ap, ◌∙◌}
use Rattle.std.proofs.lemmas.List.{map-append, reverse-append, reverse-reverse}
use Rattle.std.specs.Bool.{Decides, one_answer}
use Rattle.std.specs.Char.{to_ascii_lowercase}
use Rattle.std.specs.Cmp.{IsEquivalence, IsPartialOrder, IsTotalOrder, on_equiv, on_total, po}
use Rattle.dns_name.specs.Names.{Labels, lowered_label, lowered, framed, uncompressed}
use Rattle.std.specs.Hash as fed

-- Whether two names are equal, ignoring ASCII case.
abbrev pub names_equal : Labels → Labels → Bool
names_equal = on lowered (pointwise (pointwise ◌==◌))

-- The order of labels: the first octets that differ decide, and a label precedes those that it is a prefix of. RFC 4034 section 6.1.
abbrev pub label_order : List ℕ → List ℕ → Ordering
label_order = on lowered_label (slice_cmp nat_cmp)

-- The order of names: the labels are compared from the root leftwards, and a name precedes its subdomains. RFC 4034 section 6.1.
abbrev pub name_order : Labels → Labels → Ordering
name_order = on reverse (slice_cmp label_order)

-- The order of labels with their length octets.
abbrev pub framed_order : List ℕ → List ℕ → Ordering
framed_order = on (λ label. framed (lowered_label label)) (slice_cmp nat_cmp)

-- The order of the uncompressed octets of names, as in canonical RDATA. RFC 4034 sections 6.2 and 6.3.
abbrev pub composed_order : Labels → Labels → Ordering
composed_order = on (λ name. uncompressed (lowered name)) (slice_cmp nat_cmp)

-- What a label writes into a hasher: its length octet and its octets, one at a time.
abbrev pub label_hash_input : List ℕ → List (List ℕ)
label_hash_input label = flat_map fed.u8 (framed (lowered_label label))

-- What a name writes into a hasher: its uncompressed octets, in one write.
abbrev pub name_hash_input : Labels → List (List ℕ)
name_hash_input name = uncompressed (lowered name) ∷ []

-- Lemmas on the orders of names, for the comparisons of names.

-- `names_equal` is true exactly if the lowercased labels are the same.
pub names_equal-Decides : (m n : Labels) → Decides (names_equal m n) (lowered m ≡ lowered n)
names_equal-Decides m n = pointwise_decides bytes_decides (lowered m) (lowered n)

-- `names_equal` is an equivalence.
pub names_equal-equiv : IsEquivalence names_equal
names_equal-equiv = on_equiv lowered (lists_equiv nat_list_eq_equiv)

-- To compare lists by a function of their elements is to compare the mapped lists.
slice_cmp-on : {A B : Type 0} (f : A → B) (R : B → B → Ordering) (xs ys : List A) → slice_cmp (on f R) xs ys ≡ slice_cmp R (map f xs) (map f ys)
slice_cmp-on f R [] [] = refl
slice_cmp-on f R [] (y ∷ ys) = refl
slice_cmp-on f R (x ∷ xs) [] = refl
slice_cmp-on f R (x ∷ xs) (y ∷ ys) = ap (ordering_then (R (f x) (f y))) (slice_cmp-on f R xs ys)

-- Mapping commutes with reversing.
map-reverse : {A B : Type 0} (f : A → B) (xs : List A) → map f (reverse xs) ≡ reverse (map f xs)
map-reverse f [] = refl
map-reverse f (x ∷ xs) =
    ap (map f) (reverse-append (x ∷ []) xs) ∙ map-append f (reverse xs) (x ∷ [])
    ∙ ap (λ ys. ys ++ f x ∷ []) (map-reverse f xs) ∙ sym (reverse-append (f x ∷ []) (map f xs))

-- Lists are equal if their reverses are.
reverse-injective : {A : Type 0} (xs ys : List A) → reverse xs ≡ reverse ys → xs ≡ ys
reverse-injective xs ys e = sym (reverse-reverse xs) ∙ ap reverse e ∙ reverse-reverse ys

-- `name_order` in terms of the lowercased labels.
name_order-lowered : (m n : Labels) → name_order m n ≡ slice_cmp (slice_cmp nat_cmp) (reverse (lowered m)) (reverse (lowered n))
name_order-lowered m n =
    slice_cmp-on (map to_ascii_lowercase) (slice_cmp nat_cmp) (reverse m) (reverse n)
    ∙ ap (λ xs. slice_cmp (slice_cmp nat_cmp) xs (lowered (reverse n))) (map-reverse (map to_ascii_lowercase) m)
    ∙ ap (slice_cmp (slice_cmp nat_cmp) (reverse (lowered m))) (map-reverse (map to_ascii_lowercase) n)

-- `name_order` is `Equal` exactly if the lowercased labels are the same.
pub name_order-Decides : (m n : Labels) → Decides (eq_by_cmp name_order m n) (lowered m ≡ lowered n)
name_order-Decides m n =
    let same = lists_ties (slice_cmp nat_cmp) texts_ties (reverse (lowered m)) (reverse (lowered n)) ∙ ap is_eq (sym (name_order-lowered m n)) in
    let d = pointwise_decides bytes_decides (reverse (lowered m)) (reverse (lowered n)) in
    (λ h. reverse-injective (lowered m) (lowered n) (d.0 (same ∙ h)), λ h. sym same ∙ d.1 (ap reverse h))

-- `name_order` is total.
pub name_order-total : IsTotalOrder name_order
name_order-total = on_total reverse (lists_total (on_total (map to_ascii_lowercase) nat_list_cmp_total))

-- `name_order` is `Equal` exactly where `names_equal` is true.
pub name_order-ties : (m n : Labels) → names_equal m n ≡ eq_by_cmp name_order m n
name_order-ties m n = one_answer (names_equal m n) (eq_by_cmp name_order m n) (names_equal-Decides m n) (name_order-Decides m n)

-- `name_order` is a partial order with the equality `names_equal`.
pub name_order-partial : IsPartialOrder names_equal (as_partial_cmp name_order)
name_order-partial = po name_order-total name_order-ties

-- Equal names write the same into a hasher.
pub name_hash_input-alike : (m n : Labels) → IsTrue (names_equal m n) → name_hash_input m ≡ name_hash_input n
name_hash_input-alike m n h = ap (λ labels. uncompressed labels ∷ []) ((names_equal-Decides m n).0 h)
