-- The first item among octets, and the octets after it.
use Rattle.std.proofs.Common.{◌≡◌, ℕ, zero, suc, ◌+◌, ◌%◌, ◌<◌, ◌≤◌, true, false, List, [], ◌∷◌, length, drop, get_or, ap, sym, ◌∙◌, refl, arith}
use Rattle.std.proofs.lemmas.Bool.{le-leb}
use Rattle.fields_lists.specs.Strings.{strings_after, are_strings}
use Rattle.fields_lists.specs.TypeMaps.{is_bit_map, blocks_after}
use Rattle.fields_lists.specs.Prefixes.{prefixes_after}
use Rattle.fields_lists.proofs.theory.SkippedItems.{skip_address, skip_block, skip_string}
use Rattle.fields_text.proofs.theory.OctetsAfter.{after, after_is, after_both, after_length}

-- Character strings.

short_string : (left : ℕ) (xs : List ℕ) → length xs < left → strings_after left xs ≡ false
short_string zero xs l = absurd (omega arith)
short_string (suc left) [] l = refl
short_string (suc left) (x ∷ xs) l = short_string left xs (omega arith)

module _ (octets : List ℕ) where
  -- After a whole character string the next one decides.
  pub string_step : (xs : List ℕ) (size : ℕ) → 1 ≤ length xs → size ≡ get_or xs 0 0 → size ≤ length (after 1 xs) → strings_after 0 octets ≡ strings_after 0 xs
      → strings_after 0 octets ≡ strings_after 0 (after size (after 1 xs))
  string_step [] size l e few inv = absurd (omega arith)
  string_step (x ∷ xs) size l e few inv =
      inv ∙ ap (λ n. strings_after n xs) (sym e) ∙ skip_string size xs (omega (arith, after_length 1 (x ∷ xs) xs refl)) ∙ ap (strings_after 0) (sym (after_both 1 size (x ∷ xs) xs refl))

  never : (xs : List ℕ) → strings_after 0 xs ≡ false → are_strings xs ≡ false
  never [] h = refl
  never (x ∷ xs) h = h

  -- If a character string is cut off, the octets are no character strings.
  pub string_short : (xs : List ℕ) (size : ℕ) → 1 ≤ length xs → size ≡ get_or xs 0 0 → length (after 1 xs) < size → strings_after 0 octets ≡ strings_after 0 xs → are_strings octets ≡ false
  string_short [] size l e few inv = absurd (omega arith)
  string_short (x ∷ xs) size l e few inv =
      never octets (inv ∙ ap (λ n. strings_after n xs) (sym e) ∙ short_string size xs (omega (arith, after_length 1 (x ∷ xs) xs refl)))

-- Blocks of a type bit map.

block_step_at : (least window size : ℕ) (xs : List ℕ) → size ≤ length xs → least ≤ window → is_bit_map size xs ≡ true
    → blocks_after least 0 (window ∷ size ∷ xs) ≡ blocks_after (window + 1) 0 (drop size xs)
block_step_at least window size xs few above good =
    rw (le-leb least window above) (rw good (skip_block (window + 1) size xs few))

-- After a whole block the next one decides.
pub block_step : (least size next : ℕ) (xs : List ℕ) → 2 ≤ length xs → size ≡ get_or xs 1 0 → next ≡ get_or xs 0 0 + 1 → size ≤ length (after 2 xs) → least ≤ get_or xs 0 0
    → true ≡ is_bit_map size (after 2 xs) → blocks_after least 0 xs ≡ blocks_after next 0 (after size (after 2 xs))
block_step least size next [] l e n few above good = absurd (omega arith)
block_step least size next (window ∷ []) l e n few above good = absurd (omega arith)
block_step least size next (window ∷ size' ∷ xs) l e n few above good =
    let tail = after_is 2 (window ∷ size' ∷ xs) in
    ap (λ k. blocks_after least 0 (window ∷ k ∷ xs)) (sym e)
    ∙ block_step_at least window size xs (omega (arith, ap length tail)) above (ap (is_bit_map size) (sym tail) ∙ sym good)
    ∙ ap (λ k. blocks_after k 0 (drop size xs)) (sym n) ∙ ap (blocks_after next 0) (sym (after_both 2 size (window ∷ size' ∷ xs) xs refl))

-- Address prefixes.

short_address : (left : ℕ) (xs : List ℕ) → length xs < left → prefixes_after left xs ≡ false
short_address zero xs l = absurd (omega arith)
short_address (suc left) [] l = refl
short_address (suc left) (x ∷ xs) l = short_address left xs (omega arith)

prefix_is : (size : ℕ) (xs : List ℕ) → 4 ≤ length xs → size ≡ get_or xs 3 0 % 128 → prefixes_after 0 xs ≡ prefixes_after size (drop 4 xs)
prefix_is size [] l e = absurd (omega arith)
prefix_is size (a ∷ []) l e = absurd (omega arith)
prefix_is size (a ∷ b ∷ []) l e = absurd (omega arith)
prefix_is size (a ∷ b ∷ c ∷ []) l e = absurd (omega arith)
prefix_is size (a ∷ b ∷ c ∷ d ∷ xs) l e = ap (λ n. prefixes_after n xs) (sym e)

-- After a whole prefix the next one decides.
pub prefix_step : (size : ℕ) (xs : List ℕ) → 4 ≤ length xs → size ≡ get_or xs 3 0 % 128 → size ≤ length (after 4 xs) → prefixes_after 0 xs ≡ prefixes_after 0 (after size (after 4 xs))
prefix_step size xs l e few =
    prefix_is size xs l e ∙ skip_address size (drop 4 xs) (omega (arith, ap length (after_is 4 xs))) ∙ ap (prefixes_after 0) (sym (after_both 4 size xs (drop 4 xs) refl))

-- A prefix that is cut off is refused.
pub prefix_short : (size : ℕ) (xs : List ℕ) → 4 ≤ length xs → size ≡ get_or xs 3 0 % 128 → length (after 4 xs) < size → prefixes_after 0 xs ≡ false
prefix_short size xs l e few = prefix_is size xs l e ∙ short_address size (drop 4 xs) (omega (arith, ap length (after_is 4 xs)))
