use Rattle.std.proofs.Common.{drop}
use Rattle.dnsm_make.proofs.theory.BuildLemmas.{Checking}
use Rattle.dnsm_make.proofs.build.check_all.Given as goal

abbrev pub invariant-loop-item : goal.invariant-loop-item
invariant-loop-item l = Checking l.items (drop l.item-index l.items)
