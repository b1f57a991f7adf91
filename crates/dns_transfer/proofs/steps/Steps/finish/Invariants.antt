use Rattle.std.proofs.Common.{◌≡◌, length}
use Rattle.dns_transfer.specs.Steps.{asked_of, state_left, steps_left}
use Rattle.dns_transfer.proofs.steps.Steps.finish.Given as goal

abbrev pub invariant-loop-step : goal.invariant-loop-step
invariant-loop-step l = (state_left l.steps ≡ state_left l.fn.self) × (asked_of l.steps ≡ asked_of l.fn.self)

abbrev pub decreases-loop-step : goal.decreases-loop-step
decreases-loop-step l = length (steps_left l.steps)
