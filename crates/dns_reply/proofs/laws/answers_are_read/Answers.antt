use Rattle.dns_reply.proofs.ReadLemmas.{answers_are_read}
use Rattle.dns_reply.proofs.laws.answers_are_read.Goals as goal

pub returns : goal.returns
returns c = answers_are_read
