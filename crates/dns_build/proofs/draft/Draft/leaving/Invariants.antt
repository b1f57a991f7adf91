use Rattle.std.proofs.Common.{◌-◌}
use Rattle.dns_build.specs.BuilderStates.{IsMessage}
use Rattle.dns_build.proofs.StartLemmas.{seen}
use Rattle.dns_build.proofs.Steps.{Gone, stage_at}
use Rattle.dns_build.proofs.draft.Draft.leaving.Given as goal

abbrev pub invariant-loop-left : goal.invariant-loop-left
invariant-loop-left g l = record {
  message : IsMessage (g.T.Composer.written l.target);
  gone : Gone g.S.BuilderStage.stage g.T.Composer.rule (g.S.BuilderStage.DEPTH - l.left) l.fn.self
      (seen (stage_at (g.S.BuilderStage.DEPTH - l.left)) (g.T.Composer.written l.target) l.limit l.starts);
}
