-- Keys of names that are below others.
use Rattle.std.proofs.Common.{◌≡◌, ℕ, true, List, [], ◌∷◌, ◌++◌, length, length-append, sym, ap, ◌∙◌, refl, arith, append_assoc}
use Rattle.std.specs.Prelude.{reverse}
use Rattle.std.specs.Cmp.{tied_then}
use Rattle.std.specs.Cmp.Lexicographic.{slice_cmp}
use Rattle.std.specs.List.{flat_map}
use Rattle.std.specs.Ordering.{is_eq, nat_cmp}
use Rattle.std.proofs.lemmas.Bool.{and_parts}
use Rattle.std.proofs.lemmas.Grind.{flat_map-append}
use Rattle.std.proofs.lemmas.List.{reverse-append, reverse-reverse}
use Rattle.std.proofs.lemmas.Map.Text.{is_eq-slice_cmp}
use Rattle.std.proofs.lemmas.Slice.Eq.{bytes_eq-Decides}
use Rattle.dns_name.specs.Names.{Labels, lowered, lowered_label}
use Rattle.dnsm_text.specs.NameKeys.{octet_key, label_key, name_key, KeysOfSubdomains}
use Rattle.dnsm_text.proofs.KeyLemmas.{ended, labels_decide}
use Rattle.dnsm_text.proofs.KeySizes.{flat_map-reverse_cons, name_key-cons}

-- a key is that of the lowercased labels
key_lowered : (name : Labels) → name_key name ≡ flat_map ended (reverse (lowered name))
key_lowered [] = refl
key_lowered (label ∷ name) =
    name_key-cons label name ∙ ap (λ k. k ++ label_key label) (key_lowered name) ∙ sym (flat_map-reverse_cons ended (lowered_label label) (lowered name))

-- octets that are the same have no order
tied : (us vs : List ℕ) → us ≡ vs → is_eq (slice_cmp nat_cmp us vs) ≡ true
tied us vs same = is_eq-slice_cmp us vs ∙ (bytes_eq-Decides us vs).1 same

same_from_tied : (us vs : List ℕ) → is_eq (slice_cmp nat_cmp us vs) ≡ true → us ≡ vs
same_from_tied us vs h = (bytes_eq-Decides us vs).0 (sym (is_eq-slice_cmp us vs) ∙ h)

-- octets begin with one label at most
label_apart : (a b us vs : List ℕ) → ended a ++ us ≡ ended b ++ vs → (a ≡ b) × (us ≡ vs)
label_apart a b us vs same =
    let both = tied_then (slice_cmp nat_cmp a b) (slice_cmp nat_cmp us vs) ∙ ap is_eq (sym (labels_decide a b us vs)) ∙ tied (ended a ++ us) (ended b ++ vs) same in
    let parts = and_parts (is_eq (slice_cmp nat_cmp a b)) (is_eq (slice_cmp nat_cmp us vs)) both in
    (same_from_tied a b parts.0, same_from_tied us vs parts.1)

-- keys of labels that begin with those of others are keys of these labels and more
labels_apart : (xs ys : Labels) (after : List ℕ) → flat_map ended xs ≡ flat_map ended ys ++ after → (more : Labels) × (xs ≡ ys ++ more)
labels_apart xs [] after same = (xs, refl)
labels_apart [] (y ∷ ys) after same =
    absurd (omega (arith, ap length same, length-append (ended y ++ flat_map ended ys) after, length-append (ended y) (flat_map ended ys), length-append (flat_map octet_key y) (0 ∷ [])))
labels_apart (x ∷ xs) (y ∷ ys) after same =
    let apart = label_apart x y (flat_map ended xs) (flat_map ended ys ++ after) (same ∙ append_assoc (ended y) (flat_map ended ys) after) in
    let rest = labels_apart xs ys after apart.1 in
    (rest.0, ap (λ l. l ∷ xs) apart.0 ∙ ap (λ ls. y ∷ ls) rest.1)

-- The key of a name begins with that of another exactly if it is that name or below it.
pub keys_of_subdomains : KeysOfSubdomains
keys_of_subdomains m n = (
  λ below. (
    flat_map ended (reverse below.0),
    key_lowered m ∙ ap (λ ls. flat_map ended (reverse ls)) below.1 ∙ ap (flat_map ended) (reverse-append below.0 (lowered n))
        ∙ flat_map-append ended (reverse (lowered n)) (reverse below.0) ∙ ap (λ k. k ++ flat_map ended (reverse below.0)) (sym (key_lowered n)),
  ),
  λ begins.
      let more = labels_apart (reverse (lowered m)) (reverse (lowered n)) begins.0 (sym (key_lowered m) ∙ begins.1 ∙ ap (λ k. k ++ begins.0) (key_lowered n)) in (
        reverse more.0,
        sym (reverse-reverse (lowered m)) ∙ ap reverse more.1 ∙ reverse-append (reverse (lowered n)) more.0
            ∙ ap (λ ls. reverse more.0 ++ ls) (reverse-reverse (lowered n)),
      ),
)
