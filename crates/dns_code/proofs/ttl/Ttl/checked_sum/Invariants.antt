use Rattle.std.proofs.Common.{◌≡◌, sum, take}
use Rattle.dns_code.specs.Ttl.{FitsTtl}
use Rattle.dns_code.proofs.ttl.Ttl.checked_sum.Given as goal

abbrev pub invariant-loop-ttl : goal.invariant-loop-ttl
invariant-loop-ttl l = (l.total ≡ sum (take l.ttl-index l.ttls)) × FitsTtl l.total
