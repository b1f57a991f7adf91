use Rattle.std.proofs.Common.{refl, rules}
use Rattle.dns_print.proofs.theory.Prints.{print_four}
use Rattle.dns_dig.proofs.header.write_first_counts.Goals as goal

pub returns-clause-text : goal.returns-clause-text
returns-clause-text g c = λ ok.
    let first = rw (c.from.ensures, c.qdcount.ensures) at (c.write_number.ensures.text (search rules)) in
    let second = rw (c.from-2.ensures, c.ancount.ensures) at (c.write_number-2.ensures.text ok) in
    print_four _ _ _ _ _ _ _ _ _ _ _ (c.write_text.ensures.text (search rules)) first (c.write_text-2.ensures.text (search rules)) second refl
