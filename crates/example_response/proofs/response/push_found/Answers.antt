use Rattle.dns_message.specs.Builders.{InAnswer}
use Rattle.dns_message.specs.Names.{name_labels}
use Rattle.example_response.specs.Sets.{named_set}
use Rattle.example_response.proofs.Fitting.{fits_none, fits_one}
use Rattle.example_response.proofs.response.push_found.Goals as goal

pub returns-then-step-clause-fits : goal.returns-then-step-clause-fits
returns-then-step-clause-fits c = fits_none InAnswer c.args.step.now.repeats (named_set (name_labels c.args.step.now.name) c.args.set.now) c.args.builder.now c.if-step.true

pub returns-clause-fits : goal.returns-clause-fits
returns-clause-fits c =
    fits_one InAnswer c.args.step.now.repeats (named_set (name_labels c.args.step.now.name) c.args.set.now) c.args.builder.now c.push_named.new.builder _ c.if-step.false c.push_named.ensures.fits
