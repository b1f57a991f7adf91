use Rattle.dns_print.proofs.theory.Prints.{print_none}
use Rattle.dns_dig.proofs.opt.write_opts.Goals as goal

pub returns-in-Ok-clause-text : goal.returns-in-Ok-clause-text
returns-in-Ok-clause-text g c = λ ok. rw c.in-Ok.is (c.write_first.ensures.text ok)

pub returns-in-Err-clause-text : goal.returns-in-Err-clause-text
returns-in-Err-clause-text g c = λ ok. rw c.in-Err.is (print_none _ _)
