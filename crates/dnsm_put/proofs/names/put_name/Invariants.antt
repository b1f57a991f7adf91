use Rattle.std.proofs.Common.{length, ◌+◌, ◌-◌, ◌≡◌}
use Rattle.dns_name.specs.Names.{Labels, IsName, uncompressed}
use Rattle.dnsm_put.specs.Writing.{HintsWithin}
use Rattle.dnsm_put.proofs.Steps.{Progress}
use Rattle.dnsm_put.proofs.names.put_name.Given as goal

abbrev pub invariant-loop-i : goal.invariant-loop-i
invariant-loop-i l =
    (l.out ≡ l.fn.out) × ((n : Labels) → IsName n → l.name ≡ uncompressed n → Progress l.name n l.i)
    × (HintsWithin l.at l.fn.hints → HintsWithin (l.at + l.i) l.hints)

abbrev pub decreases-loop-i : goal.decreases-loop-i
decreases-loop-i l = length l.name - l.i
