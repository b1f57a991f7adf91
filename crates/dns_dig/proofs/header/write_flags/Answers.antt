use Rattle.std.proofs.Common.{refl, rules}
use Rattle.dns_print.proofs.theory.Prints.{print_two}
use Rattle.dns_dig.proofs.header.write_flags.Goals as goal

pub returns-clause-text : goal.returns-clause-text
returns-clause-text g c = λ ok. print_two _ _ _ _ _ _ _ (c.write_first_flags.ensures.text (search rules)) (c.write_answer_flags.ensures.text ok) refl
