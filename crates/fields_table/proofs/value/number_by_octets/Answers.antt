use Rattle.std.proofs.Common.{◌≤◌, ◌^◌, arith}
use Rattle.std.proofs.Math.Nat.{pow-le-pow_right}
use Rattle.fields_table.proofs.value.number_by_octets.Goals as goal

pub overflow_mul-number : goal.overflow_mul-number
overflow_mul-number c =
    let i = c.loop-octet.octet-index in
    let few : i ≤ 7 = omega arith in
    let up : 256 ^ i ≤ 256 ^ 7 = pow-le-pow_right (omega arith) few in
    let below = c.loop-octet.invariant.1 in
    omega arith
