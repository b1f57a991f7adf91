use Rattle.dns_reply.proofs.OneSayingLemmas.{one_saying}
use Rattle.dns_reply.proofs.laws.one_saying.Goals as goal

pub returns : goal.returns
returns c = one_saying
