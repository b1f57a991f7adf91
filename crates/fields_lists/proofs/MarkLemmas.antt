-- Marks of the types from a number on.
use Rattle.std.proofs.Common.{◌≡◌, ◌∙◌, ℕ, zero, suc, ◌+◌, ◌*◌, ◌/◌, ◌<◌, ◌≤◌, ◌==◌, Bool, true, List, ◌∷◌, length, get_or, take, refl, sym, ap, arith}
use Rattle.std.specs.Prelude.{if◌then◌else◌, ◌||◌, slice_set}
use Rattle.std.proofs.lemmas.Bool.Decides.{nat_tests}
use Rattle.std.proofs.lemmas.Grind.{common_steps}
use Rattle.std.proofs.lemmas.List.{length-set}
use Rattle.std.proofs.lemmas.List.Folds.{list_any_more}
use Rattle.fields_lists.specs.TypeBits.{has_window, is_marked, octet_bits, octets_bits}
use Rattle.fields_lists.specs.TypeMapWords.{has}

-- the 256 marks are those of the types up to index i
pub record AreMarks (types : List ℕ) (i first : ℕ) (marks : List Bool) : Type 0 where
  pub whole : length marks ≡ 256
  pub each : (index : ℕ) → index < 256 → is_marked marks index ≡ has (take i types) (first + index)

module _ (types : List ℕ) (i first : ℕ) (old : List Bool) (in_range : i < length types) (before : AreMarks types i first old) where
  -- the marks with one type more
  more : (new : List Bool) → length new ≡ 256 → ((index : ℕ) → index < 256 → is_marked new index ≡ (is_marked old index || (get_or types i 0 == first + index)))
      → AreMarks types (i + 1) first new
  more new whole step = record {
    whole = whole;
    each = λ index small.
        let n = first + index in
        step index small ∙ ap (λ (b : Bool). b || (get_or types i 0 == n)) (before.each index small) ∙ sym (list_any_more (λ rtype. rtype == n) types i 0 in_range);
  }

  -- a type before the first
  pub below : get_or types i 0 < first → AreMarks types (i + 1) first old
  below low = more old before.whole (λ index small. grind (arith, nat_tests, common_steps))

  -- a type after the 256
  pub above : first + 256 ≤ get_or types i 0 → AreMarks types (i + 1) first old
  above high = more old before.whole (λ index small. grind (arith, nat_tests, common_steps))

  -- a type that is marked
  pub marked : (new : List Bool) (at : ℕ) → at < 256 → get_or types i 0 ≡ first + at → new ≡ slice_set old at true → AreMarks types (i + 1) first new
  marked new at in_marks is e =
      let whole = before.whole in
      more new (ap (λ (marks : List Bool). length marks) e ∙ length-set old at true ∙ whole)
      (λ index small. ap (λ (marks : List Bool). is_marked marks index) e ∙ grind (arith, nat_tests, common_steps))

-- the marks are those of the windows of the types up to index i
pub record AreWindows (types : List ℕ) (i : ℕ) (marks : List Bool) : Type 0 where
  pub whole : length marks ≡ 256
  pub each : (window : ℕ) → window < 256 → is_marked marks window ≡ has_window (take i types) window

-- no type up to index i is in a window after `end`
pub record EndsWindows (types : List ℕ) (i end : ℕ) : Type 0 where
  pub within : end ≤ 256
  pub last : (n : ℕ) → has (take i types) n ≡ true → n < end * 256

-- The bits by marks are those by types.

module _ (p q : ℕ → Bool) (first : ℕ) (same : (k : ℕ) → k < 256 → p k ≡ q (first + k)) where
  octet_shifted : (at count : ℕ) → at + count ≤ 256 → octet_bits p at count ≡ octet_bits q (first + at) count
  octet_shifted at zero within = refl
  octet_shifted at (suc count) within =
      let moved : first + (at + 1) ≡ first + at + 1 = omega arith in
      let next = octet_shifted (at + 1) count (omega (arith, within)) ∙ ap (λ (k : ℕ). octet_bits q k count) moved in
      let bit = same at (omega (arith, within)) in
      λ i. (if bit i then 128 else 0) + next i / 2

  -- If a window's marks are those of the types from its first type on, the octets of the marks are those of the types.
  pub octets_shifted : (at count : ℕ) → at + 8 * count ≤ 256 → octets_bits p at count ≡ octets_bits q (first + at) count
  octets_shifted at zero within = refl
  octets_shifted at (suc count) within =
      let moved : first + (at + 8) ≡ first + at + 8 = omega arith in
      let next = octets_shifted (at + 8) count (omega (arith, within)) ∙ ap (λ (k : ℕ). octets_bits q k count) moved in
      let octet = octet_shifted at 8 (omega (arith, within)) in
      λ i. octet i ∷ next i
