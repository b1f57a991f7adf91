use Rattle.dns_read.proofs.question_section.QuestionSection.answer.Goals as goal

pub at-requires-clause-cached : goal.at-requires-clause-cached
at-requires-clause-cached c = rw c.in_ok-skip_questions.ensures.1.seen c.args.self.met
