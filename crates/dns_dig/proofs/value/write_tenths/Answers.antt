use Rattle.std.proofs.Common.{refl, rules}
use Rattle.dns_print.proofs.theory.Prints.{print_three}
use Rattle.dns_dig.proofs.value.write_tenths.Goals as goal

pub returns-clause-text : goal.returns-clause-text
returns-clause-text g c = λ ok.
    let seconds = rw c.from.ensures at (c.write_number.ensures.text (search rules)) in
    let tenths = rw c.from-2.ensures at (c.write_number-2.ensures.text (search rules)) in
    let fraction = print_three _ _ _ _ _ _ _ _ _ (c.write_text-2.ensures.text (search rules)) tenths (c.write_text-3.ensures.text ok) refl in
    print_three _ _ _ _ _ _ _ _ _ (c.write_text.ensures.text (search rules)) seconds fraction refl
