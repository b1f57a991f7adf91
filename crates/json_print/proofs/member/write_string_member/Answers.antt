use Rattle.std.proofs.Common.{refl, rules}
use Rattle.dns_print.proofs.theory.Prints.{print_two}
use Rattle.json_print.proofs.member.write_string_member.Goals as goal

pub returns-clause-text : goal.returns-clause-text
returns-clause-text g c = λ ok. print_two _ _ _ _ _ _ _ (c.write_member_name.ensures.text (search rules)) (c.write_string.ensures.text ok) refl
