use Rattle.std.proofs.Common.{◌≡◌}
use Rattle.dnsm_put.proofs.names.find_by_hash.Given as goal

abbrev pub invariant-loop-k : goal.invariant-loop-k
invariant-loop-k l = l.hints ≡ l.fn.hints
