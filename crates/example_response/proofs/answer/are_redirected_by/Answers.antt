use Rattle.std.proofs.Common.{◌∙◌, sym}
use Rattle.dns_message.specs.Names.{name_labels}
use Rattle.example_response.specs.Answers.{is_redirected_by, step_shown}
use Rattle.example_response.proofs.StepLemmas.{any_shown}
use Rattle.example_response.proofs.answer.are_redirected_by.Goals as goal

pub returns : goal.returns
returns c = c.has_redirected.ensures ∙ sym (any_shown step_shown (is_redirected_by (name_labels c.args.owner.now)) c.args.steps.now)
