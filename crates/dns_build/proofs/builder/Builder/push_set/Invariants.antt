use Rattle.std.proofs.Common.{map, take}
use Rattle.dns_build.specs.BuilderStates.{InEach}
use Rattle.dns_build.proofs.SetLemmas.{ArePushed}
use Rattle.dns_build.proofs.builder.Builder.push_set.Given as goal

abbrev pub invariant-loop-pushed : goal.invariant-loop-pushed
invariant-loop-pushed g l = record {
  pushed : InEach g.S.BuilderStage.stage g.T.Composer.rule l.fn.self (λ s.
      ArePushed g.T.Composer.capacity g.T.Composer.grows g.T.Composer.rule g.S.BuilderStage.stage s (map g.R.ComposeRecord.item (take l.pushed-index l.records)) l.self);
}
