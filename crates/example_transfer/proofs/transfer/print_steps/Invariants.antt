use Rattle.std.proofs.Common.{◌≡◌, length}
use Rattle.dns_message.specs.Transfers.Steps.{asked_of, state_left, steps_left}
use Rattle.example_transfer.proofs.Printing.{PrintedUpTo}
use Rattle.example_transfer.proofs.transfer.print_steps.Given as goal

abbrev pub invariant-loop-item : goal.invariant-loop-item
invariant-loop-item g l = record {
  printed : PrintedUpTo l.by_ixfr (steps_left l.fn.steps) (steps_left l.steps) l.fn.kept.items l.kept.items (g.W.Write.contents l.fn.writer) (g.W.Write.contents l.writer);
  state : state_left l.steps ≡ state_left l.fn.steps;
  asked : asked_of l.steps ≡ asked_of l.fn.steps;
}

abbrev pub decreases-loop-item : goal.decreases-loop-item
decreases-loop-item g l = length (steps_left l.steps)
