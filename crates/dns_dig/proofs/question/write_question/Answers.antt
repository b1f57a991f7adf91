use Rattle.std.proofs.Common.{refl, rules}
use Rattle.dns_print.proofs.theory.Prints.{print_three}
use Rattle.dns_dig.proofs.question.write_question.Goals as goal

pub returns-clause-text : goal.returns-clause-text
returns-clause-text g c = λ ok.
    let row = rw (c.qname.ensures, c.qclass.ensures, c.qtype.ensures) at (c.write_row.ensures.text (search rules)) in
    print_three _ _ _ _ _ _ _ _ _ (c.write_text.ensures.text (search rules)) row (c.write_text-2.ensures.text ok) refl
