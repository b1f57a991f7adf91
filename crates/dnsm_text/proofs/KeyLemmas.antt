-- Keys of names compare as the names do.
use Rattle.std.proofs.Common.{◌≡◌, ℕ, ◌+◌, ◌<◌, Bool, true, false, cond, List, [], ◌∷◌, ◌++◌, refl, sym, ap, ◌∙◌, arith, append_assoc}
use Rattle.std.specs.Prelude.{nat_lt, reverse}
use Rattle.std.specs.Cmp.{nat_cmp_is}
use Rattle.std.specs.Cmp.Derive.{then_next}
use Rattle.std.specs.Cmp.Lexicographic.{slice_cmp}
use Rattle.std.specs.List.{flat_map}
use Rattle.std.specs.Ordering.{is_eq, nat_cmp, ordering_then}
use Rattle.std.specs.declared.cmp.Ordering.{Ordering}
use Rattle.std.specs.declared.cmp.Ordering.TheVariants.{Less, Equal, Greater}
use Rattle.std.proofs.lemmas.Bool.{ltb-true, ltb-false}
use Rattle.std.proofs.lemmas.Cmp.{ranked}
use Rattle.std.proofs.lemmas.Map.Text.{is_eq-slice_cmp}
use Rattle.std.proofs.lemmas.Slice.Eq.{bytes_eq-Decides}
use Rattle.dns_name.specs.Names.{Labels, lowered_label}
use Rattle.dns_name.specs.NameOrders.{label_order, name_order-Decides}
use Rattle.dnsm_text.specs.NameKeys.{octet_key, label_key, name_key, KeysAreOrdered, KeysAgree}

-- one more on both sides keeps the order of numbers
cmp-more : (x y : ℕ) → nat_cmp (x + 1) (y + 1) ≡ nat_cmp x y
cmp-more x y = sym (by (nat_cmp x y) refl)
  where
    by : (o : Ordering) → o ≡ nat_cmp x y → o ≡ nat_cmp (x + 1) (y + 1)
    by Less e = let h = ranked x y Less e in nat_cmp_is (x + 1) (y + 1) Less (omega arith)
    by Equal e = let h = ranked x y Equal e in nat_cmp_is (x + 1) (y + 1) Equal (omega arith)
    by Greater e = let h = ranked x y Greater e in nat_cmp_is (x + 1) (y + 1) Greater (omega arith)

-- a comparison of numbers that is known to be less or greater decides
less_decides : (x y : ℕ) (o : Ordering) → x < y → ordering_then (nat_cmp x y) o ≡ Less
less_decides x y o h = ap (λ r. ordering_then r o) (sym (nat_cmp_is x y Less h))

greater_decides : (x y : ℕ) (o : Ordering) → y < x → ordering_then (nat_cmp x y) o ≡ Greater
greater_decides x y o h = ap (λ r. ordering_then r o) (sym (nat_cmp_is x y Greater h))

-- what an octet has in a key, by whether it is below 2
abbrev by_test : Bool → ℕ → List ℕ
by_test b o = cond b (1 ∷ (o + 1) ∷ []) (o ∷ [])

-- octets that begin keys decide as they do outside of keys
octets_decide : (x y : ℕ) (us vs : List ℕ) → slice_cmp nat_cmp (octet_key x ++ us) (octet_key y ++ vs) ≡ ordering_then (nat_cmp x y) (slice_cmp nat_cmp us vs)
octets_decide x y us vs = by (nat_lt x 2) (nat_lt y 2) refl refl
  where
    by : (b c : Bool) → nat_lt x 2 ≡ b → nat_lt y 2 ≡ c → slice_cmp nat_cmp (by_test b x ++ us) (by_test c y ++ vs) ≡ ordering_then (nat_cmp x y) (slice_cmp nat_cmp us vs)
    by true true h k = ap (λ o. ordering_then o (slice_cmp nat_cmp us vs)) (cmp-more x y)
    by true false h k =
        let low = ltb-true x 2 h in
        let high = ltb-false y 2 k in
        less_decides 1 y (slice_cmp nat_cmp ((x + 1) ∷ us) vs) (omega arith) ∙ sym (less_decides x y (slice_cmp nat_cmp us vs) (omega arith))
    by false true h k =
        let high = ltb-false x 2 h in
        let low = ltb-true y 2 k in
        greater_decides x 1 (slice_cmp nat_cmp us ((y + 1) ∷ vs)) (omega arith) ∙ sym (greater_decides x y (slice_cmp nat_cmp us vs) (omega arith))
    by false false h k = refl

-- the end of a label precedes each octet in a key
end_first : (y : ℕ) (us vs : List ℕ) → slice_cmp nat_cmp (0 ∷ us) (octet_key y ++ vs) ≡ Less
end_first y us vs = by (nat_lt y 2) refl
  where
    by : (c : Bool) → nat_lt y 2 ≡ c → slice_cmp nat_cmp (0 ∷ us) (by_test c y ++ vs) ≡ Less
    by true k = refl
    by false k = let high = ltb-false y 2 k in less_decides 0 y (slice_cmp nat_cmp us vs) (omega arith)

end_second : (x : ℕ) (us vs : List ℕ) → slice_cmp nat_cmp (octet_key x ++ us) (0 ∷ vs) ≡ Greater
end_second x us vs = by (nat_lt x 2) refl
  where
    by : (b : Bool) → nat_lt x 2 ≡ b → slice_cmp nat_cmp (by_test b x ++ us) (0 ∷ vs) ≡ Greater
    by true h = refl
    by false h = let high = ltb-false x 2 h in greater_decides x 0 (slice_cmp nat_cmp us vs) (omega arith)

-- octets of labels that begin keys decide as they do outside of keys
ended_decide : (a b us vs : List ℕ)
    → slice_cmp nat_cmp (flat_map octet_key a ++ 0 ∷ us) (flat_map octet_key b ++ 0 ∷ vs) ≡ ordering_then (slice_cmp nat_cmp a b) (slice_cmp nat_cmp us vs)
ended_decide [] [] us vs = refl
ended_decide [] (y ∷ b) us vs =
    let after : List ℕ = flat_map octet_key b ++ 0 ∷ vs in
    ap (slice_cmp nat_cmp (0 ∷ us)) (append_assoc (octet_key y) (flat_map octet_key b) (0 ∷ vs)) ∙ end_first y us after
ended_decide (x ∷ a) [] us vs =
    let after : List ℕ = flat_map octet_key a ++ 0 ∷ us in
    ap (λ k. slice_cmp nat_cmp k (0 ∷ vs)) (append_assoc (octet_key x) (flat_map octet_key a) (0 ∷ us)) ∙ end_second x after vs
ended_decide (x ∷ a) (y ∷ b) us vs =
    let first : List ℕ = flat_map octet_key a ++ 0 ∷ us in
    let second : List ℕ = flat_map octet_key b ++ 0 ∷ vs in
    ap (λ k. slice_cmp nat_cmp k (flat_map octet_key (y ∷ b) ++ 0 ∷ vs)) (append_assoc (octet_key x) (flat_map octet_key a) (0 ∷ us))
    ∙ ap (slice_cmp nat_cmp (octet_key x ++ first)) (append_assoc (octet_key y) (flat_map octet_key b) (0 ∷ vs))
    ∙ octets_decide x y first second ∙ ap (ordering_then (nat_cmp x y)) (ended_decide a b us vs)
    ∙ then_next (nat_cmp x y) (slice_cmp nat_cmp a b) (slice_cmp nat_cmp us vs) refl refl

-- A lowercased label in a key.
abbrev pub ended : List ℕ → List ℕ
ended octets = flat_map octet_key octets ++ 0 ∷ []

-- Labels that begin keys decide as they do outside of keys.
pub labels_decide : (a b us vs : List ℕ) → slice_cmp nat_cmp (ended a ++ us) (ended b ++ vs) ≡ ordering_then (slice_cmp nat_cmp a b) (slice_cmp nat_cmp us vs)
labels_decide a b us vs =
    ap (λ k. slice_cmp nat_cmp k (ended b ++ vs)) (append_assoc (flat_map octet_key a) (0 ∷ []) us)
    ∙ ap (slice_cmp nat_cmp (flat_map octet_key a ++ 0 ∷ us)) (append_assoc (flat_map octet_key b) (0 ∷ []) vs) ∙ ended_decide a b us vs

-- the empty key precedes those that aren't empty
nothing_first : (s us : List ℕ) → slice_cmp nat_cmp [] ((s ++ 0 ∷ []) ++ us) ≡ Less
nothing_first [] us = refl
nothing_first (o ∷ s) us = refl

nothing_second : (s us : List ℕ) → slice_cmp nat_cmp ((s ++ 0 ∷ []) ++ us) [] ≡ Greater
nothing_second [] us = refl
nothing_second (o ∷ s) us = refl

-- keys of labels compare as the labels do, first label first
rows_decide : (xs ys : Labels) → slice_cmp nat_cmp (flat_map label_key xs) (flat_map label_key ys) ≡ slice_cmp label_order xs ys
rows_decide [] [] = refl
rows_decide [] (y ∷ ys) = nothing_first (flat_map octet_key (lowered_label y)) (flat_map label_key ys)
rows_decide (x ∷ xs) [] = nothing_second (flat_map octet_key (lowered_label x)) (flat_map label_key xs)
rows_decide (x ∷ xs) (y ∷ ys) = labels_decide (lowered_label x) (lowered_label y) (flat_map label_key xs) (flat_map label_key ys) ∙ ap (ordering_then (label_order x y)) (rows_decide xs ys)

-- Keys compare as the names do.
pub keys_are_ordered : KeysAreOrdered
keys_are_ordered m n = rows_decide (reverse m) (reverse n)

-- Keys are the same exactly for names that are equal ignoring ASCII case.
pub keys_agree : KeysAgree
keys_agree m n =
    let tested = is_eq-slice_cmp (name_key m) (name_key n) in
    let ordered = ap is_eq (keys_are_ordered m n) in (
      λ same. (name_order-Decides m n).0 (sym ordered ∙ tested ∙ (bytes_eq-Decides _ _).1 same),
      λ same. (bytes_eq-Decides _ _).0 (sym tested ∙ ordered ∙ (name_order-Decides m n).1 same),
    )
