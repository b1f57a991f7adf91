-- Texts of no number.
use Rattle.std.proofs.Common.{◌≡◌, ◌↔◌, ℕ}
use Rattle.std.specs.Prelude.{None, Some}

-- what is read as no number is of none
pub none_spelled : (IsSpelled : ℕ → Type 0) → ((n : ℕ) → IsSpelled n ↔ (None ≡ Some n)) → (n : ℕ) → IsSpelled n → ⊥
none_spelled IsSpelled read n is = let e = (read n).0 is in cc e
