use Rattle.std.proofs.Common.{length}
use Rattle.dns_build.specs.BuilderStates.{InEach}
use Rattle.dns_build.specs.State.{InAnswer}
use Rattle.dns_transfer_writer.specs.Filling.{Filling}
use Rattle.dns_transfer_writer.specs.Queue.{queue_items}
use Rattle.dns_transfer_writer.proofs.fill.fill.Given as goal

abbrev pub invariant-records : goal.invariant-records
invariant-records g l = record {
  filling : InEach InAnswer g.T.Composer.rule l.fn.builder (λ s.
      Filling g.T.Composer.capacity g.T.Composer.rule s (queue_items g.R.ComposeRecord.item l.fn.queue) (queue_items g.R.ComposeRecord.item l.left) l.builder);
}

abbrev pub decreases-records : goal.decreases-records
decreases-records g l = length (queue_items g.R.ComposeRecord.item l.left)
