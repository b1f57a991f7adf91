use Rattle.std.proofs.Common.{length, ◌-◌}
use Rattle.dnsm_put.proofs.RdataWritten.{Begun}
use Rattle.dnsm_put.proofs.rdata.first_name.Given as goal

abbrev pub invariant-loop-i : goal.invariant-loop-i
invariant-loop-i l = Begun l.octets l.i

abbrev pub decreases-loop-i : goal.decreases-loop-i
decreases-loop-i l = length l.octets - l.i
