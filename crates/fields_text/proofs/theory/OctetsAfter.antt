-- The octets after the first ones.
use Rattle.std.proofs.Common.{◌≡◌, ℕ, ◌-◌, List, length, take, drop, length-drop, ap, ◌∙◌, arith}
use Rattle.std.proofs.lemmas.List.{take_all}

-- the octets after the first k
abbrev pub after : ℕ → List ℕ → List ℕ
after k xs = take (length xs - k) (drop k xs)

-- What is after some octets is what is left without them.
pub after_is : (k : ℕ) (xs : List ℕ) → after k xs ≡ drop k xs
after_is k xs = take_all (length xs - k) (drop k xs) (omega (arith, length-drop k xs))

-- the octets after the first k, and then the next `size`
pub after_both : (k size : ℕ) (xs rest : List ℕ) → drop k xs ≡ rest → after size (after k xs) ≡ drop size rest
after_both k size xs rest e = after_is size (after k xs) ∙ ap (drop size) (after_is k xs ∙ e)

-- What is after some octets is as long as what is left without them.
pub after_length : (k : ℕ) (xs rest : List ℕ) → drop k xs ≡ rest → length (after k xs) ≡ length rest
after_length k xs rest e = ap length (after_is k xs ∙ e)
