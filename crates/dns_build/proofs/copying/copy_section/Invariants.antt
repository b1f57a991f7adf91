use Rattle.std.proofs.Common.{length}
use Rattle.dns_read.specs.RecordSection.{records_left}
use Rattle.dns_build.specs.State.{State}
use Rattle.dns_build.specs.BuilderStates.{Represents}
use Rattle.dns_build.proofs.CopyLemmas.{SoFar}
use Rattle.dns_build.proofs.copying.copy_section.Given as goal

abbrev pub invariant-loop-item : goal.invariant-loop-item
invariant-loop-item g l = record {
  callable : goal.F-IsAlwaysCallable g l.op;
  copied : (s : State) → Represents g.S.BuilderStage.stage g.T.Composer.rule s l.fn.target
      → SoFar (goal.F-step g) g.R.ComposeRecord.item g.T.Composer.capacity g.T.Composer.grows g.T.Composer.rule g.S.BuilderStage.stage
      (records_left l.fn.section) l.fn.op s (records_left l.section) l.op l.target;
}

abbrev pub decreases-loop-item : goal.decreases-loop-item
decreases-loop-item g l = length (records_left l.section)
