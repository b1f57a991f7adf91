use Rattle.dns_print.proofs.theory.Prints.{print_none}
use Rattle.dns_dig.proofs.opt.write_item.Goals as goal

pub write_if_opt-requires-clause-read : goal.write_if_opt-requires-clause-read
write_if_opt-requires-clause-read g c = rw c.in-Ok.is at c.requires.read

pub write_if_opt-requires-clause-short : goal.write_if_opt-requires-clause-short
write_if_opt-requires-clause-short g c = rw c.in-Ok.is at c.requires.short

pub returns-in-Ok-clause-text : goal.returns-in-Ok-clause-text
returns-in-Ok-clause-text g c = λ ok. rw c.in-Ok.is (c.write_if_opt.ensures.text ok)

pub returns-in-Err-clause-text : goal.returns-in-Err-clause-text
returns-in-Err-clause-text g c = λ ok. rw c.in-Err.is (print_none _ _)
