use Rattle.std.proofs.Common.{refl, rules}
use Rattle.dns_print.proofs.theory.Prints.{print_four}
use Rattle.dns_dig.proofs.header.write_first_flags.Goals as goal

pub returns-clause-text : goal.returns-clause-text
returns-clause-text g c = λ ok.
    let qr' = rw c.qr.ensures at (c.write_if.ensures.text (search rules)) in
    let aa' = rw c.aa.ensures at (c.write_if-2.ensures.text (search rules)) in
    let tc' = rw c.tc.ensures at (c.write_if-3.ensures.text (search rules)) in
    let rd' = rw c.rd.ensures at (c.write_if-4.ensures.text ok) in
    print_four _ _ _ _ _ _ _ _ _ _ _ qr' aa' tc' rd' refl
