use Rattle.std.proofs.Common.{refl, rules}
use Rattle.dns_print.proofs.theory.Prints.{print_four}
use Rattle.dns_dig.proofs.value.write_error_fields.Goals as goal

pub returns-clause-text : goal.returns-clause-text
returns-clause-text g c = λ ok.
    let number = rw c.from.ensures at (c.write_number.ensures.text (search rules)) in
    let name = rw c.from_int.ensures at (c.write_error_name.ensures.text (search rules)) in
    print_four _ _ _ _ _ _ _ _ _ _ _ (c.write_text.ensures.text (search rules)) number name (c.write_error_details.ensures.text ok) refl
