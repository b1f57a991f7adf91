use Rattle.std.proofs.Common.{◌-◌}
use Rattle.dnsm_read.proofs.NameWalks.{Passed}
use Rattle.dnsm_read.proofs.name_offsets.name_from.Given as goal

abbrev pub invariant-names : goal.invariant-names
invariant-names l = Passed l.octets l.start l.end l.offset l.left l.index

abbrev pub decreases-names : goal.decreases-names
decreases-names l = l.end - l.offset
