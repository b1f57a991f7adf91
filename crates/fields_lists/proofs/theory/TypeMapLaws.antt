-- The printed words of a type bit map read back.
use Rattle.std.proofs.Common.{◌≡◌, ◌∙◌, ℕ, zero, suc, ◌+◌, ◌*◌, ◌<◌, ◌≤◌, ◌==◌, ◌↔◌, Bool, true, List, [], ◌∷◌, length, take, drop, length-take-le, length-drop, refl, sym, ap, subst, arith, inl, inr, eq-eqb}
use Rattle.std.specs.Prelude.{Some, ◌||◌}
use Rattle.std.specs.Borrow.{Bor}
use Rattle.std.proofs.lemmas.Bool.{false≢true, or_cases}
use Rattle.std.proofs.lemmas.List.Folds.{list_any-append}
use Rattle.hex.specs.Hex.{IsBytes}
use Rattle.fields_lists.specs.TypeMaps.{blocks_after, is_type_map, is_small_map, map_types, octet_types}
use Rattle.fields_lists.specs.TypeMapWords.{AreTypeTexts, AreTypes, HasType, IsSmallTypeMap, IsTypeMap, has}
use Rattle.fields_plain.specs.TypeWords.{IsTypeWord}
use Rattle.fields_lists.proofs.BlockLemmas.{first_block, map_first}
use Rattle.fields_text.proofs.theory.ByteLemmas.{bytes_drop}
use Rattle.fields_lists.proofs.SmallMapLemmas.{type_is_small}
use Rattle.fields_plain.proofs.theory.RegisteredLemmas.{one_word, types_read_back}
use Rattle.fields_lists.proofs.TypeMapLemmas.{has_type, octet_range, or_true, type_has}

-- types of blocks have 16 bits
pub map_bound : (fuel least n : ℕ) (octets : List ℕ) → length octets ≤ fuel → IsBytes octets → blocks_after least 0 octets ≡ true → has (map_types octets) n ≡ true → n < 65536
map_bound fuel least n [] few bytes blocks h = absurd (false≢true h)
map_bound fuel least n (window ∷ []) few bytes blocks h = absurd (false≢true blocks)
map_bound zero least n (window ∷ size ∷ octets) few bytes blocks h = absurd (omega arith)
map_bound (suc fuel) least n (window ∷ size ∷ octets) few bytes blocks h =
    let first = first_block least window size octets blocks in
    let count = length-take-le size octets first.fits in
    let whole = map_first window size octets first.short first.fits in
    elim (or_cases (has (octet_types (window * 256) (take size octets)) n) (has (map_types (drop size octets)) n)
    (sym (ap (λ (types : List ℕ). has types n) whole ∙ list_any-append (λ rtype. rtype == n) (octet_types (window * 256) (take size octets)) (map_types (drop size octets))) ∙ h)) [
      | inl e ↦ (let small : window < 256 = bytes 0 in
          let short = first.short in
          let here = octet_range (take size octets) (window * 256) n e in omega arith)
      | inr g ↦ (let left = length-drop size octets in
          map_bound fuel (window + 1) n (drop size octets) (omega arith) (bytes_drop size octets (λ i. bytes (suc (suc i)))) first.others g)
    ]

texts_are : (words : List (Bor (List ℕ))) (types : List ℕ) → ((n : ℕ) → has types n ≡ true → n < 65536) → AreTypeTexts words types
    → AreTypes words × ((n : ℕ) → has types n ≡ true ↔ HasType words n)
texts_are [] [] small texts = (tt, λ n. (λ h. absurd (false≢true h), λ h. absurd h))
texts_are [] (t ∷ types) small texts = absurd texts
texts_are (word ∷ words) [] small texts = absurd texts
texts_are (word ∷ words) (t ∷ types) small texts =
    let first : t < 65536 = small t (ap (λ (b : Bool). b || has types t) (eq-eqb t t refl)) in
    let read : IsTypeWord word.now t = subst (λ (text : List ℕ). IsTypeWord text t) (sym texts.0) (types_read_back t first) in
    let others = texts_are words types (λ n h. small n (ap (λ (b : Bool). (t == n) || b) h ∙ or_true (t == n))) texts.1 in
    let is : (n : ℕ) → IsTypeWord word.now n ↔ (Some t ≡ Some n) = λ n. (
      λ i. ap (λ (k : ℕ). Some k) (one_word word.now t n read i),
      λ e. let same : t ≡ n = cc e in subst (IsTypeWord word.now) same read,
    ) in (
      ((t, read), others.0),
      λ n. (λ h. has_type word words t types is others.1 n (t == n) refl h, λ h. type_has word words t types is others.1 n h),
    )

-- A type map that is printed is read back.
pub type_maps_read_back : (words : List (Bor (List ℕ))) (octets : List ℕ) → IsBytes octets → is_type_map octets ≡ true → AreTypeTexts words (map_types octets) → IsTypeMap words octets
type_maps_read_back words octets bytes blocks texts =
    let are = texts_are words (map_types octets) (λ n h. map_bound (length octets) 0 n octets (omega arith) bytes blocks h) texts in
    record { types = are.0; bytes = bytes; blocks = blocks; bits = λ n small. are.1 n }

-- A small type map that is printed is read back.
pub small_type_maps_read_back : (words : List (Bor (List ℕ))) (octets : List ℕ) → IsBytes octets → is_small_map octets ≡ true → AreTypeTexts words (octet_types 0 octets)
    → IsSmallTypeMap words octets
small_type_maps_read_back words octets bytes small texts =
    let are = texts_are words (octet_types 0 octets) (λ n h. let at = type_is_small octets n small h in omega arith) texts in
    record { types = are.0; bytes = bytes; small = small; bits = are.1 }
