use Rattle.dns_message.specs.Builders.{InAnswer}
use Rattle.example_response.specs.Sets.{records_of, required}
use Rattle.example_response.proofs.Fitting.{fits_none, fits_one}
use Rattle.example_response.proofs.response.push_redirection.Goals as goal

pub returns-then-step-clause-fits : goal.returns-then-step-clause-fits
returns-then-step-clause-fits c = fits_none InAnswer c.args.step.now.repeats (required (records_of c.args.set.now)) c.args.builder.now c.if-step.true

pub returns-clause-fits : goal.returns-clause-fits
returns-clause-fits c =
    fits_one InAnswer c.args.step.now.repeats (required (records_of c.args.set.now)) c.args.builder.now c.push_set.new.builder _ c.if-step.false (rw c.deref.ensures.value at c.push_set.ensures.fits)
