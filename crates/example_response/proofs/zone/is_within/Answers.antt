use Rattle.std.specs.Bool.{one_answer}
use Rattle.dns_message.specs.Names.{labels}
use Rattle.dns_message.specs.Replies.{is_within}
use Rattle.example_response.proofs.zone.is_within.Goals as goal

pub returns : goal.returns
returns c =
    let name = labels c.args.name.now in
    let other = labels c.args.other.now in
    one_answer c.ends_with.result (is_within name other) c.ends_with.ensures (c.within_is_suffix.ensures name other)
