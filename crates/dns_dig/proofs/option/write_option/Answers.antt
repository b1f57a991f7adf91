use Rattle.std.proofs.Common.{refl, rules}
use Rattle.dns_print.proofs.theory.Prints.{print_three}
use Rattle.dns_dig.proofs.option.write_option.Goals as goal

pub returns-clause-text : goal.returns-clause-text
returns-clause-text g c = λ ok.
    let value = print_three _ _ _ _ _ _ _ _ _ (c.write_text-2.ensures.text (search rules)) (c.write_value.ensures.text (search rules)) (c.write_text-3.ensures.text ok) refl in
    print_three _ _ _ _ _ _ _ _ _ (c.write_text.ensures.text (search rules)) (c.write_option_code.ensures.text (search rules)) value refl
