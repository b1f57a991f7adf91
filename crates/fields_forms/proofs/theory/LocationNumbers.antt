-- Numbers of locations.
use Rattle.std.proofs.Common.{ℕ, ◌^◌, ◌<◌, [], ◌∷◌, arith}
use Rattle.std.specs.Int.{from_be_bytes, w32}

-- The number of four octets has 32 bits.
pub four_bound : (a b c d : ℕ) → a < 256 → b < 256 → c < 256 → d < 256 → from_be_bytes w32 (a ∷ b ∷ c ∷ d ∷ []) < 2 ^ 32
four_bound a b c d x y z w = omega arith
