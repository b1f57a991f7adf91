use Rattle.dns_dig.proofs.question.write_item_line.Goals as goal

pub returns-in-Ok-clause-text : goal.returns-in-Ok-clause-text
returns-in-Ok-clause-text g c = λ ok. rw c.in-Ok.is (c.write_question.ensures.text ok)

pub returns-in-Err-clause-text : goal.returns-in-Err-clause-text
returns-in-Err-clause-text g c = λ ok. rw c.in-Err.is (c.write_text.ensures.text ok)
