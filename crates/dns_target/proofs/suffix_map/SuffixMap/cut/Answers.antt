use Rattle.std.proofs.Common.{◌∙◌}
use Rattle.dns_target.proofs.KeyTables.{tabled_pop, cut_pop}
use Rattle.dns_target.proofs.suffix_map.SuffixMap.cut.Goals as goal

pub loop-last-preserved-in-Some-pop : goal.loop-last-preserved-in-Some-pop
loop-last-preserved-in-Some-pop c = record {
  tabled = (tabled_pop c.loop-last.self-inside.offsets c.remove.new.self _ _ c.in-Some-pop.last c.loop-last.invariant.tabled c.in-Some-pop.ensures.items c.remove.ensures.updates.0).0;
  same =
      cut_pop c.loop-last.self-inside.offsets c.remove.new.self _ c.deref.result.now _ c.in-Some-pop.last c.in-Some.last.now c.args.len
      c.loop-last.invariant.tabled c.in-Some-pop.ensures.items c.remove.ensures.updates.0 c.deref.ensures.value c.in-Some.ensures.value
      c.if-last-len.false
      ∙ c.loop-last.invariant.same;
}
