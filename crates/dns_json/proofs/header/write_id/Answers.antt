use Rattle.std.proofs.Common.{refl, rules}
use Rattle.dns_print.proofs.theory.Prints.{print_two}
use Rattle.dns_json.proofs.header.write_id.Goals as goal

pub returns-clause-text : goal.returns-clause-text
returns-clause-text g c = λ ok. print_two _ _ _ _ _ _ _ (c.begin_object.ensures.text (search rules)) (rw c.from.ensures at (c.write_number.ensures.text ok)) refl
