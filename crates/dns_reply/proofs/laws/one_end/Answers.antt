use Rattle.dns_reply.proofs.ChainLemmas.{one_end}
use Rattle.dns_reply.proofs.laws.one_end.Goals as goal

pub returns : goal.returns
returns c = one_end
