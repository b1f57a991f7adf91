use Rattle.dns_reply.proofs.OwnerLemmas.{within_is_suffix}
use Rattle.dns_reply.proofs.laws.within_is_suffix.Goals as goal

pub returns : goal.returns
returns c = within_is_suffix
