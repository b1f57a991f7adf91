use Rattle.dns_print.proofs.theory.Prints.{print_none}
use Rattle.dns_json.proofs.question.write_asked.Goals as goal

pub returns-in-Some-clause-text : goal.returns-in-Some-clause-text
returns-in-Some-clause-text g c = λ ok. rw c.in-Some.is (c.write_first.ensures.text ok)

pub returns-in-None-clause-text : goal.returns-in-None-clause-text
returns-in-None-clause-text g c = λ ok. rw c.in-None.is (print_none _ _)
