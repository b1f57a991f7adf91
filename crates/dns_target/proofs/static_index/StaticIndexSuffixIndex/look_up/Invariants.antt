use Rattle.dns_target.specs.TableEntries.{table_in}
use Rattle.dns_wire.specs.Choice.{IsNew}
use Rattle.dns_target.proofs.static_index.StaticIndexSuffixIndex.look_up.Given as goal

abbrev pub invariant-loop-from : goal.invariant-loop-from
invariant-loop-from l = IsNew (table_in l.content l.self) l.labels l.from
