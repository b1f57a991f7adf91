use Rattle.std.proofs.Common.{length}
use Rattle.dnsm_read.specs.Steps.{left_from}
use Rattle.dnsm_read.proofs.OptSearchLemmas.{Passed}
use Rattle.dnsm_read.proofs.find_opt.next_opt.Given as goal

abbrev pub invariant-items : goal.invariant-items
invariant-items l = Passed l.octets l.fn.cursor l.cursor

abbrev pub decreases-items : goal.decreases-items
decreases-items l = length (left_from l.octets l.cursor)
