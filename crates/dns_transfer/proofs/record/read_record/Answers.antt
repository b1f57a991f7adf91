use Rattle.std.proofs.Common.{ℕ, List, ap, length, arith}
use Rattle.dns_transfer.proofs.record.read_record.Goals as goal

pub returns-clause-span : goal.returns-clause-span
returns-clause-span c =
    let reads = c.in_ok-shown.ensures.0 in
    let start = reads.rdata_start in
    let end = reads.rdata_end in
    let after = reads.skips.end in
    let within = reads.skips.within in
    let seen = ap (λ (xs : List ℕ). length xs) c.in_ok-shown.ensures.2.seen in
    record { start = omega arith; end = omega (arith, seen) }
