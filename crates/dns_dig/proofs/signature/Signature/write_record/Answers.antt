use Rattle.std.proofs.Common.{refl, rules}
use Rattle.dns_print.proofs.theory.Prints.{print_three}
use Rattle.dns_dig.proofs.signature.Signature.write_record.Goals as goal

pub returns-clause-text : goal.returns-clause-text
returns-clause-text g c = λ ok.
    let heading = rw c.heading.ensures at (c.write_text.ensures.text (search rules)) in
    print_three _ _ _ _ _ _ _ _ _ heading (c.write_record.ensures.text (search rules)) (c.write_text-2.ensures.text ok) refl
