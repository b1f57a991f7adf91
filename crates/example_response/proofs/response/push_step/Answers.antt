use Rattle.dns_message.specs.Builders.{InAnswer}
use Rattle.example_response.specs.Answers.{step_shown}
use Rattle.example_response.specs.Sets.{made_sets, redirection_sets}
use Rattle.example_response.proofs.Fitting.{fits_then}
use Rattle.example_response.proofs.response.push_step.Goals as goal

pub returns-in_ok-push_redirection-in-Redirected-clause-fits : goal.returns-in_ok-push_redirection-in-Redirected-clause-fits
returns-in_ok-push_redirection-in-Redirected-clause-fits c =
    let step = step_shown c.args.step.now in
    let set = c.in-Redirected.set.now in
    rw c.in-Redirected.is
    (fits_then InAnswer (redirection_sets step set) (made_sets step set.ttl) c.args.builder.now c.push_redirection.new.builder c.push_made.new.builder c.push_made.result
    c.in_ok-push_redirection-in-Redirected.ensures.fits c.in_ok-push_redirection-in-Redirected.ensures.reserved c.push_made.ensures.fits)
