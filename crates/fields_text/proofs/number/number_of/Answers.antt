use Rattle.std.proofs.Common.{ℕ, ◌≤◌, ◌^◌, arith}
use Rattle.std.proofs.Math.Nat.{pow-le-pow_right}
use Rattle.fields_text.proofs.number.number_of.Goals as goal

-- at most seven octets are a number below 256 to the seventh power
small : (k : ℕ) → k ≤ 7 → 256 ^ k ≤ 256 ^ 7
small k h = pow-le-pow_right (omega arith) h

pub overflow_mul-number : goal.overflow_mul-number
overflow_mul-number c = let p = small c.loop-octet.octet-index (omega arith) in omega (arith, p)

pub overflow_add-number : goal.overflow_add-number
overflow_add-number c = let p = small c.loop-octet.octet-index (omega arith) in omega (arith, p)
