-- Words of types have a type bit map.
use Rattle.std.proofs.Common.{◌≡◌, ◌∙◌, ℕ, zero, suc, ◌+◌, ◌-◌, ◌*◌, ◌==◌, ◌↔◌, Bool, true, List, [], ◌∷◌, ◌++◌, length, length-append, replicate, refl, ap, subst, arith, inl, inr, ne_eqb}
use Rattle.std.specs.Prelude.{Some}
use Rattle.std.specs.Borrow.{Bor}
use Rattle.std.proofs.lemmas.Bool.{false≢true, not_from_false}
use Rattle.std.proofs.lemmas.List.{length-replicate}
use Rattle.fields_lists.specs.Prefixes.{is_trimmed}
use Rattle.fields_text.specs.declared.text_error.TextError.{TextError}
use Rattle.fields_text.specs.Reading.{Fails, HasValue}
use Rattle.fields_lists.specs.TypeBits.{FailsAsTypes, IsBits, IsBlocks, block_of, octets_bits}
use Rattle.fields_lists.specs.TypeMapWords.{AreTypes, HasType, IsTypeMap, has}
use Rattle.fields_plain.specs.TypeWords.{IsTypeWord}
use Rattle.fields_lists.proofs.TypeMapLemmas.{blocks_more, blocks_none, has_type, map_is, trimmed_is, type_has}
use Rattle.fields_plain.proofs.theory.RegisteredLemmas.{one_word}

-- octets without the zeros at their end
record Trimmed (octets : List ℕ) : Type 0 where
  bits : List ℕ
  count : ℕ
  trimmed : is_trimmed bits ≡ true
  zeros : octets ≡ bits ++ replicate count 0

trimmed_more : (x count : ℕ) (octets bits : List ℕ) → is_trimmed bits ≡ true → octets ≡ bits ++ replicate count 0 → Trimmed (x ∷ octets)
trimmed_more zero count octets [] trimmed zeros = record { bits = []; count = suc count; trimmed = refl; zeros = ap (λ (xs : List ℕ). 0 ∷ xs) zeros }
trimmed_more (suc x) count octets [] trimmed zeros = record {
  bits = suc x ∷ [];
  count = count;
  trimmed = not_from_false (suc x == 0) (ne_eqb (suc x) 0 (λ e. omega arith));
  zeros = ap (λ (xs : List ℕ). suc x ∷ xs) zeros;
}
trimmed_more x count octets (y ∷ bits) trimmed zeros = record { bits = x ∷ y ∷ bits; count = count; trimmed = trimmed; zeros = ap (λ (xs : List ℕ). x ∷ xs) zeros }

trimmed_exists : (octets : List ℕ) → Trimmed octets
trimmed_exists [] = record { bits = []; count = 0; trimmed = refl; zeros = refl }
trimmed_exists (x ∷ octets) = let t = trimmed_exists octets in trimmed_more x t.count octets t.bits t.trimmed t.zeros

-- There are bits of at most `count` octets.
bits_exist : (p : ℕ → Bool) (first count : ℕ) → (bits : List ℕ) × IsBits p first count bits
bits_exist p first count =
    let octets = octets_bits p first count in
    let t = trimmed_exists octets in
    let size : length octets ≡ length t.bits + t.count = ap length t.zeros ∙ length-append t.bits (replicate t.count 0) ∙ ap (λ (k : ℕ). length t.bits + k) (length-replicate t.count 0) in
    let left : t.count ≡ length octets - length t.bits = omega arith in
    (t.bits, trimmed_is p first count octets t.bits refl t.trimmed (omega (arith, size)) (t.zeros ∙ ap (λ (k : ℕ). t.bits ++ replicate k 0) left))

blocks_exist : (p : ℕ → Bool) (left window : ℕ) → window + left ≡ 256 → (blocks : List ℕ) × IsBlocks p window blocks
blocks_exist p zero window e = let none = blocks_none p window [] (omega arith) in (none.0, none.1)
blocks_exist p (suc left) window e =
    let own = bits_exist p (window * 256) 32 in
    let others = blocks_exist p left (window + 1) (omega arith) in
    (block_of window own.0 ++ others.0, blocks_more p window own.0 others.0 (omega arith) own.1 others.1)

-- the types of words
types_of : (words : List (Bor (List ℕ))) → AreTypes words → (types : List ℕ) × ((n : ℕ) → has types n ≡ true ↔ HasType words n)
types_of [] are = ([], λ n. (λ h. absurd (false≢true h), λ h. absurd h))
types_of (word ∷ words) are =
    let k = are.0.0 in
    let read : IsTypeWord word.now k = are.0.1 in
    let others = types_of words are.1 in
    let is : (n : ℕ) → IsTypeWord word.now n ↔ (Some k ≡ Some n) = λ n. (
      λ i. ap (λ (m : ℕ). Some m) (one_word word.now k n read i),
      λ e. let same : k ≡ n = cc e in subst (IsTypeWord word.now) same read,
    ) in (
      k ∷ others.0,
      λ n. (λ h. has_type word words k others.0 is others.1 n (k == n) refl h, λ h. type_has word words k others.0 is others.1 n h),
    )

-- Words of types have a bit map.
pub map_exists : (words : List (Bor (List ℕ))) → AreTypes words → HasValue (IsTypeMap words)
map_exists words are =
    let types = types_of words are in
    let blocks = blocks_exist (has types.0) 256 0 refl in
    (blocks.0, map_is words types.0 blocks.0 are types.1 blocks.1)

-- why no map is read
pub types_fail : (words : List (Bor (List ℕ))) (e : TextError) → FailsAsTypes words e → Fails (IsTypeMap words) e
types_fail words e (inl memory) = inl (memory.0, map_exists words memory.1)
types_fail words e (inr bad) = inr (bad.0, λ octets is. bad.1 is.types)
