use Rattle.dns_reply.proofs.WithinLemmas.{answers_are_answers}
use Rattle.dns_reply.proofs.laws.answers_are_answers.Goals as goal

pub returns : goal.returns
returns c = answers_are_answers
