use Rattle.dns_name.specs.ParsedName.{labels}
use Rattle.dns_reply.proofs.OwnerLemmas.{within_told}
use Rattle.dns_reply.proofs.owners.is_within.Goals as goal

pub returns : goal.returns
returns c = within_told c.ends_with.result (labels c.args.name.now) (labels c.args.other.now) c.ends_with.ensures
