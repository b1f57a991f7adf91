use Rattle.dns_reply.proofs.WithinLemmas.{all_within}
use Rattle.dns_reply.proofs.laws.all_within.Goals as goal

pub returns : goal.returns
returns c = all_within
