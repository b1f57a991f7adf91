use Rattle.std.proofs.Common.{drop}
use Rattle.dns_target.proofs.EntryLists.{IsSkipped}
use Rattle.dns_target.proofs.static_index.StaticIndex.find.Given as goal

abbrev pub invariant-loop-index : goal.invariant-loop-index
invariant-loop-index l = IsSkipped l.content (drop l.from l.labels) l.self-inside.entries.items l.index
