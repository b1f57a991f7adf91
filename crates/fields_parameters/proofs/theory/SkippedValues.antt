-- Values of service parameters that are skipped.
use Rattle.std.proofs.Common.{◌≡◌, ℕ, zero, suc, ◌≤◌, List, [], ◌∷◌, length, drop, refl, arith}
use Rattle.fields_parameters.specs.Parameters.{parameters_after}

-- those of the value of a service parameter
pub skip_value : (least left : ℕ) (xs : List ℕ) → left ≤ length xs → parameters_after least left xs ≡ parameters_after least 0 (drop left xs)
skip_value least zero xs l = refl
skip_value least (suc left) [] l = absurd (omega arith)
skip_value least (suc left) (x ∷ xs) l = skip_value least left xs (omega arith)
