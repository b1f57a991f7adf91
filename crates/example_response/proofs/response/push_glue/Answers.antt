use Rattle.std.proofs.Common.{◌∙◌, ap}
use Rattle.dns_message.specs.Names.{labels, name_labels}
use Rattle.dns_message.specs.Replies.{is_within}
use Rattle.example_response.proofs.Fitting.{glue_by}
use Rattle.example_response.proofs.response.push_glue.Goals as goal

pub returns-in_ok-push_addresses-2-clause-fits : goal.returns-in_ok-push_addresses-2-clause-fits
returns-in_ok-push_addresses-2-clause-fits c =
    let host = labels c.in-Some.host in
    glue_by c.args.zone.now (name_labels c.args.cut.now.owner) host _ _ _ c.is_within-required.result
    c.args.builder.now c.push_addresses.new.builder c.push_addresses-in-Some.new.builder c.in-Some.ensures c.set_at.ensures c.set_at-in-Some.ensures
    (c.is_within-required.ensures ∙ ap (is_within host) c.as_parsed.ensures.labels) c.in_ok-push_addresses.ensures.fits c.in_ok-push_addresses.ensures.reserved c.in_ok-push_addresses-2.ensures.fits
