use Rattle.std.proofs.Common.{◌∙◌, sym, refl, arith}
use Rattle.dns_target.proofs.EntryLists.{new_more, found_at}
use Rattle.dns_target.proofs.EntryLemmas.{all_names_at}
use Rattle.dns_target.proofs.static_index.StaticIndexSuffixIndex.look_up.Goals as goal

pub find-offset-requires-clause-names_at : goal.find-offset-requires-clause-names_at
find-offset-requires-clause-names_at c = all_names_at _ _ c.requires.entries.new c.requires.entries.is_table

pub loop-from-preserved : goal.loop-from-preserved
loop-from-preserved c = new_more _ c.args.labels.now _ c.loop-from.from c.find-offset.result c.loop-from.invariant refl c.find-offset.ensures (sym c.is_some.ensures ∙ c.if-is_some.false)

pub returns-then-is_some-clause-found : goal.returns-then-is_some-clause-found
returns-then-is_some-clause-found c = found_at _ c.args.labels.now _ c.loop-from.from c.find-offset.result c.loop-from.invariant
    (omega arith) refl c.find-offset.ensures (sym c.is_some.ensures ∙ c.if-is_some.true)
