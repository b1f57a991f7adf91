use Rattle.std.proofs.Common.{subst}
use Rattle.dns_script.specs.Script.{Steps}
use Rattle.dns_script.proofs.Histories.{represents_message}
use Rattle.dns_script.proofs.script.step.Goals as goal

pub returns-in-Ok-clause-message : goal.returns-in-Ok-clause-message
returns-in-Ok-clause-message g c =
    λ s h. represents_message g.T.Composer.rule _ c.in-Ok.next c.encodings_are_messages.ensures (c.in-Ok.ensures.moved s h).1

pub returns-in-Err-clause-steps : goal.returns-in-Err-clause-steps
returns-in-Err-clause-steps g c =
    subst (λ stage. Steps g.T.Composer.capacity g.T.Composer.grows g.Q.ComposeQuestion.question g.R.ComposeRecord.item g.T.Composer.rule stage c.args.call.now c.stay.result.1 c.stay.result.0)
    c.in-Err.ensures.same (c.stay.ensures c.in-Err.ensures.stays)

pub returns-in-Err-clause-message : goal.returns-in-Err-clause-message
returns-in-Err-clause-message g c =
    λ s h. represents_message g.T.Composer.rule _ c.stay.result.0 c.encodings_are_messages.ensures (returns-in-Err-clause-steps g c s h).1
