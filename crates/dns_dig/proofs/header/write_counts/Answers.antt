use Rattle.std.proofs.Common.{refl, rules}
use Rattle.dns_print.proofs.theory.Prints.{print_three}
use Rattle.dns_dig.proofs.header.write_counts.Goals as goal

pub returns-clause-text : goal.returns-clause-text
returns-clause-text g c = λ ok.
    print_three _ _ _ _ _ _ _ _ _ (c.write_first_counts.ensures.text (search rules)) (c.write_last_counts.ensures.text (search rules)) (c.write_text.ensures.text ok) refl
