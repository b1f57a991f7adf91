-- The first octets of a list, and the remaining ones.
use Rattle.std.proofs.Common.{◌≡◌, ℕ, List, ◌++◌, length, take, drop, arith}
use Rattle.std.proofs.lemmas.Grind.{common_steps}

-- the first of two lists
pub front : (n : ℕ) (b c : List ℕ) → length b ≡ n → take n (b ++ c) ≡ b
front n b c h = grind (arith, common_steps)

-- the second of two lists
pub after_front : (n : ℕ) (b c : List ℕ) → length b ≡ n → drop n (b ++ c) ≡ c
after_front n b c h = grind (arith, common_steps)
