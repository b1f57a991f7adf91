-- The uncompressed name at the start of octets.
use Rattle.std.proofs.Common.{◌≡◌, ◌∙◌, ℕ, zero, suc, ◌+◌, ◌≤◌, ◌==◌, Bool, true, false, List, [], ◌∷◌, ◌++◌, length, take, drop, append_assoc, refl, sym, ap, subst, arith}
use Rattle.std.specs.Prelude.{All, Option, Some, None, option_map, nat_le, ◌&&◌, if◌then◌else◌}
use Rattle.std.proofs.lemmas.Bool.{leb-true, and_parts, eqb-true, eqb-false}
use Rattle.std.proofs.lemmas.List.{length-take-le, take-append-drop}
use Rattle.std.proofs.lemmas.List.Elements.{All-cons, All-nil}
use Rattle.std.proofs.lemmas.Option.{same_Some}
use Rattle.hex.specs.Hex.{IsBytes}
use Rattle.dns_name.specs.Names.{Labels, IsLabel, IsName, name_size, uncompressed}
use Rattle.fields_forms.specs.PlainNames.{can_follow}
use Rattle.fields_forms.specs.GatewayTexts.{labels_at, name_at}
use Rattle.fields_text.proofs.theory.ByteLemmas.{OfOctets, bytes_back, bytes_front, labels_of_octets}

-- Equal pairs have equal parts.
pub pair_same : {A B : Type 0} (x y : A × B) → Some x ≡ Some y → (x.0 ≡ y.0) × (x.1 ≡ y.1)
pair_same {A} {B} x y e = let same = same_Some x y e in (ap (λ (p : A × B). p.0) same, ap (λ (p : A × B). p.1) same)

-- Labels after labels of `size` octets, and the octets after them.
pub record Found (size : ℕ) (octets after : List ℕ) (name : Labels) : Type 0 where
  pub whole : octets ≡ uncompressed name ++ after
  pub labels : All IsLabel name
  pub short : size + name_size name ≤ 254

-- The labels found after a label, with it.
abbrev pub with_label : List ℕ → Option (Labels × List ℕ) → Option (Labels × List ℕ)
with_label label others = option_map (λ name. (label ∷ name.0, name.1)) others

moved : (size : ℕ) (octets left after : List ℕ) (own name : Labels) → (own ≡ name) × (left ≡ after) → Found size octets left own → Found size octets after name
moved size octets left after own name same found =
    subst (λ (xs : Labels). Found size octets after xs) same.0 (subst (λ (xs : List ℕ). Found size octets xs own) same.1 found)

root_found : (size n : ℕ) (octets : List ℕ) → size ≤ 254 → n ≡ 0 → Found size (n ∷ octets) octets []
root_found size n octets small root = record { whole = ap (λ k. k ∷ octets) root; labels = All-nil IsLabel; short = omega (arith, small) }

label_found : (size n : ℕ) (octets left : List ℕ) (others : Labels) → 1 ≤ n → n ≤ 63 → n ≤ length octets → Found (size + 1 + n) (drop n octets) left others
    → Found size (n ∷ octets) left (take n octets ∷ others)
label_found size n octets left others some short enough found =
    let label : List ℕ = take n octets in
    let size_is : length label ≡ n = length-take-le n octets enough in
    let octets_are : octets ≡ (label ++ uncompressed others) ++ left =
    sym (take-append-drop n octets) ∙ ap (λ (xs : List ℕ). label ++ xs) found.whole ∙ sym (append_assoc label (uncompressed others) left) in
    record {
      whole = ap (λ k. k ∷ octets) (sym size_is) ∙ ap (λ (xs : List ℕ). length label ∷ xs) octets_are;
      labels = All-cons IsLabel label others (record { some = omega (arith, size_is); short = omega (arith, size_is) }) found.labels;
      short = omega (arith, size_is, found.short);
    }

module _ (count : ℕ) (later : (size : ℕ) (octets after : List ℕ) (name : Labels) → size ≤ 254 → labels_at count size octets ≡ Some (name, after) → Found size octets after name)
    (size n : ℕ) (octets after : List ℕ) (name : Labels) (small : size ≤ 254) where
  after_label : (can_follow size n && nat_le n (length octets)) ≡ true → 1 ≤ n → (o : Option (Labels × List ℕ)) → labels_at count (size + 1 + n) (drop n octets) ≡ o
      → with_label (take n octets) o ≡ Some (name, after) → Found size (n ∷ octets) after name
  after_label t some None e f = absurd (cc)
  after_label t some (Some (others, left)) e f =
      let parts = and_parts (can_follow size n) (nat_le n (length octets)) t in
      let follows = and_parts (nat_le n 63) (nat_le (size + 1 + n) 254) parts.0 in
      moved size (n ∷ octets) left after (take n octets ∷ others) name (pair_same (take n octets ∷ others, left) (name, after) f)
      (label_found size n octets left others some (leb-true n 63 follows.0) (leb-true n (length octets) parts.1)
      (later (size + 1 + n) (drop n octets) left others (leb-true (size + 1 + n) 254 follows.1) e))

  abbrev labelled : Bool → Option (Labels × List ℕ)
  labelled b = if b then with_label (take n octets) (labels_at count (size + 1 + n) (drop n octets)) else None

  at_label : 1 ≤ n → (b : Bool) → (can_follow size n && nat_le n (length octets)) ≡ b → labelled b ≡ Some (name, after) → Found size (n ∷ octets) after name
  at_label some true t f = after_label t some (labels_at count (size + 1 + n) (drop n octets)) refl f
  at_label some false t f = absurd (cc)

  at_first : (b : Bool) → (n == 0) ≡ b → (if b then Some ([], octets) else labelled (can_follow size n && nat_le n (length octets))) ≡ Some (name, after) → Found size (n ∷ octets) after name
  at_first true z f = moved size (n ∷ octets) octets after [] name (pair_same ([], octets) (name, after) f) (root_found size n octets small (eqb-true n 0 z))
  at_first false z f = let not_root = eqb-false n 0 z in at_label (omega arith) (can_follow size n && nat_le n (length octets)) refl f

-- What is found is an uncompressed name.
pub found_at : (count size : ℕ) (octets after : List ℕ) (name : Labels) → size ≤ 254 → labels_at count size octets ≡ Some (name, after) → Found size octets after name
found_at zero size octets after name small e = absurd (cc)
found_at (suc count) size [] after name small e = absurd (cc)
found_at (suc count) size (n ∷ octets) after name small e = at_first count (found_at count) size n octets after name small (n == 0) refl e

-- the name that is found, and the octets after it
pub record NameFirst (octets after : List ℕ) (name : Labels) : Type 0 where
  pub whole : octets ≡ uncompressed name ++ after
  pub is_name : IsName name
  pub of_octets : All OfOctets name
  pub bytes : IsBytes after

-- A name that is found begins the octets.
pub name_first : (octets after : List ℕ) (name : Labels) → IsBytes octets → name_at octets ≡ Some (name, after) → NameFirst octets after name
name_first octets after name bytes e =
    let found = found_at (length octets) 0 octets after name (omega arith) e in
    let all : IsBytes (uncompressed name ++ after) = subst IsBytes found.whole bytes in
    record {
      whole = found.whole;
      is_name = record { labels = found.labels; short = omega (arith, found.short) };
      of_octets = labels_of_octets name (bytes_front (uncompressed name) after all);
      bytes = bytes_back (uncompressed name) after all;
    }
