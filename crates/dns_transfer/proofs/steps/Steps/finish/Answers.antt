use Rattle.std.proofs.Common.{◌∙◌, ap, sym, length, arith}
use Rattle.std.specs.Prelude.{Result, Ok}
use Rattle.dns_transfer.specs.declared.error.TransferError.{TransferError}
use Rattle.dns_transfer.specs.declared.grammar.State.{State}
use Rattle.dns_transfer.proofs.steps.Steps.finish.Goals as goal

pub loop-step-smaller : goal.loop-step-smaller
loop-step-smaller c = let shorter = ap length c.in-Some.ensures.steps in omega (arith, shorter)

pub loop-step-preserved : goal.loop-step-preserved
loop-step-preserved c = (c.in-Some.ensures.state ∙ c.loop-step.invariant.0, c.in-Some.ensures.asked ∙ c.loop-step.invariant.1)

pub returns-in-Ok : goal.returns-in-Ok
returns-in-Ok c = (
  c.new.ensures.asked ∙ c.in_default.ensures.asked ∙ c.loop-step.invariant.1,
  sym (c.in_default.ensures.ended ∙ c.in_default.ensures.state ∙ c.loop-step.invariant.0) ∙ c.in-Ok.is
      ∙ ap (λ (s : State). let r : Result State TransferError = Ok s in r) (sym c.new.ensures.state),
)

pub returns-in-Err : goal.returns-in-Err
returns-in-Err c = sym (c.in_default.ensures.ended ∙ c.in_default.ensures.state ∙ c.loop-step.invariant.0) ∙ c.in-Err.is
