use Rattle.std.proofs.Common.{refl, rules}
use Rattle.dns_print.proofs.theory.Prints.{print_two}
use Rattle.json_print.proofs.member.begin_object.Goals as goal

pub returns-clause-text : goal.returns-clause-text
returns-clause-text g c = λ ok. print_two _ _ _ _ _ _ _ (c.write_text.ensures.text (search rules)) (c.write_name.ensures.text ok) refl
