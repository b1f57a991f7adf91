use Rattle.std.proofs.Common.{◌≡◌, ◌≤◌, ◌-◌, length, take}
use Rattle.dnsm_read.proofs.octets.same.Given as goal

abbrev pub invariant-loop-i : goal.invariant-loop-i
invariant-loop-i l = (take l.i l.a ≡ take l.i l.b) × (l.i ≤ length l.a)

abbrev pub decreases-loop-i : goal.decreases-loop-i
decreases-loop-i l = length l.a - l.i
