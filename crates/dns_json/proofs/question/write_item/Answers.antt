use Rattle.std.proofs.Common.{rules}
use Rattle.dns_print.proofs.theory.Prints.{print_none}
use Rattle.dns_json.proofs.EntryTexts.{or_true, or_false}
use Rattle.dns_json.proofs.question.write_item.Goals as goal

pub returns-in_ok-write_question-in-Ok-clause-text : goal.returns-in_ok-write_question-in-Ok-clause-text
returns-in_ok-write_question-in-Ok-clause-text g c = rw c.in-Ok.is (c.write_question.ensures.text (search rules))

pub returns-in_ok-write_question-in-Ok-clause-later : goal.returns-in_ok-write_question-in-Ok-clause-later
returns-in_ok-write_question-in-Ok-clause-later g c = rw c.in-Ok.is (or_true c.args.later)

pub returns-in-Err-clause-text : goal.returns-in-Err-clause-text
returns-in-Err-clause-text g c = rw c.in-Err.is (print_none _ _)

pub returns-in-Err-clause-later : goal.returns-in-Err-clause-later
returns-in-Err-clause-later g c = rw c.in-Err.is (or_false c.args.later)
