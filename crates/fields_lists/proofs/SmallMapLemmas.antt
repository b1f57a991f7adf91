-- Type bit maps of types up to 127.
use Rattle.std.proofs.Common.{◌≡◌, ◌∙◌, ℕ, zero, suc, ◌+◌, ◌*◌, ◌%◌, ◌^◌, ◌<◌, ◌≤◌, ◌==◌, Bool, true, false, List, [], ◌∷◌, ◌++◌, length, refl, sym, ap, arith, inl, inr, eq-eqb, le-leb}
use Rattle.std.specs.Prelude.{nat_le, nat_lt, ◌&&◌, if◌then◌else◌}
use Rattle.std.specs.Borrow.{Bor}
use Rattle.std.proofs.Math.Nat.{pow-suc}
use Rattle.std.proofs.lemmas.Bool.{and_from, and_parts, cases_lt, false≢true, lt-leb, lt-ltb, ltb-true, or_left, or_right}
use Rattle.std.proofs.lemmas.List.Folds.{list_any-append}
use Rattle.hex.specs.Hex.{IsBytes}
use Rattle.fields_lists.specs.TypeMaps.{bit_types, ends_nonzero, is_small_map, octet_types}
use Rattle.fields_lists.specs.TypeBits.{AreSmallTypes, HaveSmallMarks, IsBits, IsSmallType, is_marked, is_small_type, is_within}
use Rattle.fields_lists.specs.TypeMapWords.{AreTypes, HasType, IsSmallTypeMap, has}
use Rattle.fields_text.proofs.theory.ByteLemmas.{nonzero}
use Rattle.fields_lists.proofs.SmallMarks.{small_range}
use Rattle.fields_plain.proofs.theory.RegisteredLemmas.{one_word}
use Rattle.fields_lists.proofs.TypeMapLemmas.{bit_range, ends_of, octet_cases, octet_range}

-- the highest bit of an octet
pub bit_clear : (count first octet n : ℕ) → octet < 128 → has (bit_types (suc count) first octet) n ≡ has (bit_types count (first + 1) (octet % 128 * 2)) n
bit_clear count first octet n low =
    ap (λ (b : Bool). has ((if b then first ∷ [] else []) ++ bit_types count (first + 1) (octet % 128 * 2)) n) (lt-leb 128 octet low)

-- The first bit of an octet is that of its first type.
pub bit_set : (count first octet : ℕ) → 128 ≤ octet → has (bit_types (suc count) first octet) first ≡ true
bit_set count first octet high =
    ap (λ (b : Bool). has ((if b then first ∷ [] else []) ++ bit_types count (first + 1) (octet % 128 * 2)) first) (le-leb 128 octet high)
    ∙ or_left (first == first) (has (bit_types count (first + 1) (octet % 128 * 2)) first) (eq-eqb first first refl)

first_clear : (count octet : ℕ) → octet < 128 → has (bit_types (suc count) 0 octet) 0 ≡ true → ⊥
first_clear count octet low h =
    let range = bit_range count 1 (octet % 128 * 2) 0 (sym (bit_clear count 0 octet 0 low) ∙ h) in
    omega arith

first_set : (octet : ℕ) (octets : List ℕ) → 128 ≤ octet → has (octet_types 0 (octet ∷ octets)) 0 ≡ true
first_set octet octets high =
    list_any-append (λ rtype. rtype == 0) (bit_types 8 0 octet) (octet_types 8 octets) ∙ or_left (has (bit_types 8 0 octet) 0) (has (octet_types 8 octets) 0) (bit_set 7 0 octet high)

-- the types of a small map are from 1 to 127
some_type : (octet n : ℕ) (octets : List ℕ) → octet < 128 → has (octet_types 0 (octet ∷ octets)) n ≡ true → 0 < n
some_type octet zero octets small h =
    elim (octet_cases octet 0 0 octets h) [
      | inl e ↦ absurd (first_clear 7 octet small e)
      | inr g ↦ (let range = octet_range octets 8 0 g in absurd (omega arith))
    ]
some_type octet (suc n) octets small h = omega arith

-- A type of a small map is from 1 to 127.
pub type_is_small : (octets : List ℕ) (n : ℕ) → is_small_map octets ≡ true → has (octet_types 0 octets) n ≡ true → (0 < n) × (n < 128)
type_is_small [] n small h = absurd (false≢true small)
type_is_small (octet ∷ octets) n small h =
    let parts = and_parts (nat_lt octet 128 && nat_lt (length octets) 16) (ends_nonzero (octet ∷ octets)) small in
    let bounds = and_parts (nat_lt octet 128) (nat_lt (length octets) 16) parts.0 in
    let first = ltb-true octet 128 bounds.0 in
    let few = ltb-true (length octets) 16 bounds.1 in
    let range = octet_range (octet ∷ octets) 0 n h in
    (some_type octet n octets first h, omega arith)

-- A small map ends with an octet that isn't zero.
pub ends : (octets : List ℕ) → is_small_map octets ≡ true → ends_nonzero octets ≡ true
ends [] small = absurd (false≢true small)
ends (octet ∷ octets) small = (and_parts (nat_lt octet 128 && nat_lt (length octets) 16) (ends_nonzero (octet ∷ octets)) small).1

-- an octet that isn't zero has a bit
later_bit : (count first octet : ℕ) → octet < 128 → (n : ℕ) × (has (bit_types count (first + 1) (octet % 128 * 2)) n ≡ true) → (n : ℕ) × (has (bit_types (suc count) first octet) n ≡ true)
later_bit count first octet low (n, h) = (n, bit_clear count first octet n low ∙ h)

some_bit : (count first m k octet : ℕ) → m * 2 ^ count ≡ 256 → octet ≡ k * m → 0 < octet → octet < 256 → (n : ℕ) × (has (bit_types count first octet) n ≡ true)
some_bit zero first m k octet e multiple some small =
    let whole : m ≡ 256 = omega (arith, e) in
    let factor : octet ≡ k * 256 = multiple ∙ ap (λ (x : ℕ). k * x) whole in
    absurd (omega arith)
some_bit (suc count) first m k octet e multiple some small =
    elim (cases_lt octet 128) [
      | inl low ↦ (let power : m * 2 ^ suc count ≡ m * (2 ^ count * 2) = ap (λ (x : ℕ). m * x) (pow-suc 2 count) in
          let double : (m + m) * 2 ^ count ≡ 256 = omega arith in
          let shifted : octet % 128 * 2 ≡ k * (m + m) = omega (arith, multiple, low) in
          later_bit count first octet low (some_bit count (first + 1) (m + m) k (octet % 128 * 2) double shifted (omega arith) (omega arith)))
      | inr high ↦ (first, bit_set count first octet high)
    ]

-- octets that don't end with zero have a type
pub has_some : (octets : List ℕ) (first : ℕ) → IsBytes octets → ends_nonzero octets ≡ true → (n : ℕ) × (has (octet_types first octets) n ≡ true)
has_some [] first bytes end = absurd (false≢true end)
has_some (octet ∷ []) first bytes end =
    let bit = some_bit 8 first 1 octet octet refl (omega arith) (nonzero octet end) (bytes 0) in
    (bit.0, list_any-append (λ rtype. rtype == bit.0) (bit_types 8 first octet) [] ∙ or_left (has (bit_types 8 first octet) bit.0) false bit.1)
has_some (octet ∷ next ∷ octets) first bytes end =
    let later = has_some (next ∷ octets) (first + 8) (λ i. bytes (suc i)) end in (
      later.0,
      list_any-append (λ rtype. rtype == later.0) (bit_types 8 first octet) (octet_types (first + 8) (next ∷ octets))
          ∙ or_right (has (bit_types 8 first octet) later.0) (has (octet_types (first + 8) (next ∷ octets)) later.0) later.1,
    )

-- the map of small types
module _ (p : ℕ → Bool) (all : (n : ℕ) → p n ≡ true → (0 < n) × (n < 128)) (some : (n : ℕ) × (p n ≡ true)) where
  within_small : (n : ℕ) → is_within p 0 128 n ≡ p n
  within_small n = by_mark (p n) refl where
    by_mark : (b : Bool) → p n ≡ b → is_within p 0 128 n ≡ p n
    by_mark true e =
        let last : nat_lt n 128 ≡ true = lt-ltb n 128 (all n e).1 in
        ap (λ (b : Bool). b && (nat_le 0 n && nat_lt n 128)) e ∙ and_from (nat_le 0 n) (nat_lt n 128) (le-leb 0 n (omega arith)) last ∙ sym e
    by_mark false e = ap (λ (b : Bool). b && (nat_le 0 n && nat_lt n 128)) e ∙ sym e

  same_types : (bits : List ℕ) → IsBits p 0 16 bits → (n : ℕ) → has (octet_types 0 bits) n ≡ p n
  same_types bits is n = is.types n ∙ within_small n

  first_small : (octet : ℕ) (bits : List ℕ) → ((n : ℕ) → has (octet_types 0 (octet ∷ bits)) n ≡ p n) → octet < 128
  first_small octet bits same =
      elim (cases_lt octet 128) [
        | inl low ↦ low
        | inr high ↦ (let zero = (all 0 (sym (same 0) ∙ first_set octet bits high)).0 in absurd (omega arith))
      ]

  is_small : (bits : List ℕ) → IsBits p 0 16 bits → ((n : ℕ) → has (octet_types 0 bits) n ≡ p n) → is_small_map bits ≡ true
  is_small [] is same = absurd (false≢true (same some.0 ∙ some.1))
  is_small (octet ∷ bits) is same =
      let short = is.short in
      and_from _ _ (and_from _ _ (lt-ltb octet 128 (first_small octet bits same)) (lt-ltb (length bits) 16 (omega arith))) (ends_of octet bits is.trimmed)

-- the types of words
small_type : (words : List (Bor (List ℕ))) (n : ℕ) → AreSmallTypes words → HasType words n → (0 < n) × (n < 128)
small_type [] n are h = absurd h
small_type (word ∷ words) n are (inl w) =
    let k = are.0.0 in
    let is : IsSmallType word.now k = are.0.1 in
    let same : k ≡ n = one_word word.now k n is.0 w in
    small_range n (ap is_small_type (sym same) ∙ is.1)
small_type (word ∷ words) n are (inr h) = small_type words n are.1 h

small_are_types : (words : List (Bor (List ℕ))) → AreSmallTypes words → AreTypes words
small_are_types [] are = tt
small_are_types (word ∷ words) are = ((are.0.0, are.0.1.0), small_are_types words are.1)

some_type_of : (words : List (Bor (List ℕ))) → 0 < length words → AreSmallTypes words → (n : ℕ) × HasType words n
some_type_of [] some are = absurd (omega arith)
some_type_of (word ∷ words) some are = (are.0.0, inl are.0.1.0)

-- The bits of the types of words are the small map of these words.
pub small_map_is : (words : List (Bor (List ℕ))) (marks : List Bool) (bits : List ℕ) → 0 < length words → HaveSmallMarks words marks → IsBits (is_marked marks) 0 16 bits
    → IsSmallTypeMap words bits
small_map_is words marks bits some have is =
    let all : (n : ℕ) → is_marked marks n ≡ true → (0 < n) × (n < 128) = λ n m. small_type words n have.small ((have.each n).0 m) in
    let one = some_type_of words some have.small in
    let marked : (n : ℕ) × (is_marked marks n ≡ true) = (one.0, (have.each one.0).1 one.1) in
    let same = same_types (is_marked marks) all marked bits is in
    record {
      types = small_are_types words have.small;
      bytes = is.bytes;
      small = is_small (is_marked marks) all marked bits is same;
      bits = λ n. (λ h. (have.each n).0 (sym (same n) ∙ h), λ h. same n ∙ (have.each n).1 h);
    }

types_are_small : (words : List (Bor (List ℕ))) → ((n : ℕ) → HasType words n → (0 < n) × (n < 128)) → AreTypes words → AreSmallTypes words
types_are_small [] small are = tt
types_are_small (word ∷ words) small are =
    let range = small are.0.0 (inl are.0.1) in
    let is : is_small_type are.0.0 ≡ true = and_from _ _ (lt-ltb 0 are.0.0 range.0) (lt-ltb are.0.0 128 range.1) in
    ((are.0.0, (are.0.1, is)), types_are_small words (λ n h. small n (inr h)) are.1)

-- Words that have a small map are types from 1 to 127.
pub small_words : (words : List (Bor (List ℕ))) (octets : List ℕ) → IsSmallTypeMap words octets → AreSmallTypes words
small_words words octets is = types_are_small words (λ n h. type_is_small octets n is.small ((is.bits n).1 h)) is.types

-- No words have no small map.
pub no_small_map : (words : List (Bor (List ℕ))) (octets : List ℕ) → length words ≡ 0 → ¬ IsSmallTypeMap words octets
no_small_map [] octets none is = let some = has_some octets 0 is.bytes (ends octets is.small) in (is.bits some.0).0 some.1
no_small_map (word ∷ words) octets none is = absurd (omega arith)
