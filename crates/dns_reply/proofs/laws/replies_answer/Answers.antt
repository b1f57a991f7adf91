use Rattle.dns_reply.proofs.MatchLemmas.{replies_answer}
use Rattle.dns_reply.proofs.laws.replies_answer.Goals as goal

pub returns : goal.returns
returns c = replies_answer
