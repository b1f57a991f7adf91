-- Octets that others were written over.
use Rattle.std.proofs.Common.{◌≡◌, ◌+◌, ◌≤◌, ℕ, List, length, take, drop, arith}
use Rattle.std.specs.Prelude.{slice_range}
use Rattle.std.proofs.lemmas.Grind.{common_steps}
use Rattle.dns_octets.specs.Octets.{overwritten}

-- The octets before those overwritten stay.
pub kept_before : (b xs : List ℕ) (p : ℕ) → p ≤ length b → take p (overwritten b p xs) ≡ take p b
kept_before b xs p l = grind (arith, common_steps)

-- The octets after those overwritten stay.
pub kept_after : (b xs : List ℕ) (p q : ℕ) → p + length xs ≡ q → q ≤ length b → drop q (overwritten b p xs) ≡ drop q b
kept_after b xs p q e l = grind (arith, common_steps)

-- The octets that were written are read.
pub written_there : (b xs : List ℕ) (p q : ℕ) → p + length xs ≡ q → q ≤ length b → slice_range (overwritten b p xs) p q ≡ xs
written_there b xs p q e l = grind (arith, common_steps)
