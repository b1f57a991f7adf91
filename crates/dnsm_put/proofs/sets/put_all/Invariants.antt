use Rattle.std.proofs.Common.{take}
use Rattle.dnsm_put.proofs.SetLemmas.{HasPut}
use Rattle.dnsm_put.proofs.sets.put_all.Given as goal

abbrev pub invariant-loop-item : goal.invariant-loop-item
invariant-loop-item l = HasPut l.fn.out l.out l.fn.draft l.draft (take l.item-index l.items)
