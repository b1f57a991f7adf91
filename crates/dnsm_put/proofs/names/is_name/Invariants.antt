use Rattle.std.proofs.Common.{◌-◌, length}
use Rattle.dnsm_put.proofs.NamesChecked.{CheckedTo}
use Rattle.dnsm_put.proofs.names.is_name.Given as goal

abbrev pub invariant-loop-i : goal.invariant-loop-i
invariant-loop-i l = CheckedTo l.octets l.i

abbrev pub decreases-loop-i : goal.decreases-loop-i
decreases-loop-i l = length l.octets - l.i
