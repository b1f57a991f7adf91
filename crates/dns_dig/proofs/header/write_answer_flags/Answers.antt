use Rattle.std.proofs.Common.{refl, rules}
use Rattle.dns_print.proofs.theory.Prints.{print_four}
use Rattle.dns_dig.proofs.header.write_answer_flags.Goals as goal

pub returns-clause-text : goal.returns-clause-text
returns-clause-text g c = λ ok.
    let ra' = rw c.ra.ensures at (c.write_if.ensures.text (search rules)) in
    let ad' = rw c.ad.ensures at (c.write_if-2.ensures.text (search rules)) in
    let cd' = rw c.cd.ensures at (c.write_if-3.ensures.text (search rules)) in
    let z' = rw c.z.ensures at (c.write_if-4.ensures.text ok) in
    print_four _ _ _ _ _ _ _ _ _ _ _ ra' ad' cd' z' refl
