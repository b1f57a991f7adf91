use Rattle.std.proofs.Common.{◌∙◌, arith}
use Rattle.dns_target.specs.FingerprintIndex.{FingerprintEntry, hashed_of}
use Rattle.dns_target.proofs.FingerprintLemmas.{linked_pop}
use Rattle.dns_target.proofs.NewestFirst.{cut-popped}
use Rattle.dns_target.proofs.fingerprint_index.FingerprintIndex.cut.Goals as goal

pub loop-last-preserved : goal.loop-last-preserved
loop-last-preserved c = record {
  linked = linked_pop c.loop-last.self-inside.heads.items c.link.new.heads.items c.pop.new.self.items c.loop-last.self-inside.entries.items
      c.in-Some-pop.entry c.loop-last.invariant.linked c.in-Some-pop.ensures.items c.link.ensures.heads;
  same = cut-popped hashed_of (λ (x : FingerprintEntry). x.end) c.args.len _ _ _ c.in-Some-pop.entry c.in-Some.last.now
      c.in-Some-pop.ensures.items c.deref.ensures.value c.in-Some.ensures.value (omega (arith, c.if-from-len.false)) ∙ c.loop-last.invariant.same;
}
