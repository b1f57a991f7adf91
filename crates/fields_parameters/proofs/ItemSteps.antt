-- The first service parameter among octets, and the octets after it.
use Rattle.std.proofs.Common.{◌≡◌, ℕ, zero, suc, ◌+◌, ◌*◌, ◌<◌, ◌≤◌, false, List, [], ◌∷◌, length, drop, get_or, ap, sym, ◌∙◌, refl, arith}
use Rattle.std.specs.Prelude.{nat_le, ◌&&◌}
use Rattle.std.proofs.lemmas.Bool.{le-leb, lt-leb, and_left, and_right}
use Rattle.fields_parameters.specs.Parameters.{parameters_after}
use Rattle.fields_parameters.proofs.theory.SkippedValues.{skip_value}
use Rattle.fields_text.proofs.theory.OctetsAfter.{after, after_is, after_both}

-- Service parameters.

short_value : (least left : ℕ) (xs : List ℕ) → length xs < left → parameters_after least left xs ≡ false
short_value least zero xs l = absurd (omega arith)
short_value least (suc left) [] l = refl
short_value least (suc left) (x ∷ xs) l = short_value least left xs (omega arith)

-- the first parameter: its key and the size of its value
pub record Parameter (xs : List ℕ) (key size : ℕ) : Type 0 where
  pub some : 4 ≤ length xs
  pub key_is : key ≡ get_or xs 0 0 * 256 + get_or xs 1 0
  pub size_is : size ≡ get_or xs 2 0 * 256 + get_or xs 3 0

parameter_is : (least key size : ℕ) (xs : List ℕ) → Parameter xs key size → parameters_after least 0 xs ≡ (nat_le least key && parameters_after (key + 1) size (drop 4 xs))
parameter_is least key size [] h = let l = h.some in absurd (omega arith)
parameter_is least key size (a ∷ []) h = let l = h.some in absurd (omega arith)
parameter_is least key size (a ∷ b ∷ []) h = let l = h.some in absurd (omega arith)
parameter_is least key size (a ∷ b ∷ c ∷ []) h = let l = h.some in absurd (omega arith)
parameter_is least key size (a ∷ b ∷ c ∷ d ∷ xs) h =
    ap (λ k. nat_le least k && parameters_after (k + 1) (c * 256 + d) xs) (sym h.key_is) ∙ ap (λ n. nat_le least key && parameters_after (key + 1) n xs) (sym h.size_is)

-- After a whole parameter with a greater key the next one decides.
pub parameter_step : (least key size : ℕ) (xs : List ℕ) → Parameter xs key size → least ≤ key → size ≤ length (after 4 xs)
    → parameters_after least 0 xs ≡ parameters_after (key + 1) 0 (after size (after 4 xs))
parameter_step least key size xs h above few =
    let tail = after_is 4 xs in
    parameter_is least key size xs h ∙ rw (le-leb least key above) (skip_value (key + 1) size (drop 4 xs) (omega (arith, ap length tail)))
    ∙ ap (parameters_after (key + 1) 0) (sym (after_both 4 size xs (drop 4 xs) refl))

-- A parameter whose key isn't greater is refused.
pub parameter_below : (least key size : ℕ) (xs : List ℕ) → Parameter xs key size → key < least → parameters_after least 0 xs ≡ false
parameter_below least key size xs h below = parameter_is least key size xs h ∙ and_left _ _ (lt-leb least key below)

-- A parameter that is cut off is refused.
pub parameter_short : (least key size : ℕ) (xs : List ℕ) → Parameter xs key size → length (after 4 xs) < size → parameters_after least 0 xs ≡ false
parameter_short least key size xs h few =
    parameter_is least key size xs h ∙ and_right _ _ (short_value (key + 1) size (drop 4 xs) (omega (arith, ap length (after_is 4 xs))))
