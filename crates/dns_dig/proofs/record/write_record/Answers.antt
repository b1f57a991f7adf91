use Rattle.std.proofs.Common.{refl, rules}
use Rattle.dns_print.proofs.theory.Prints.{print_three}
use Rattle.dns_dig.proofs.record.write_record.Goals as goal

pub returns-clause-text : goal.returns-clause-text
returns-clause-text g c = λ ok.
    let front = rw (c.owner.ensures, c.as_secs-ttl.ensures, c.ttl.ensures, c.class.ensures, c.rtype.ensures) at (c.write_front.ensures.text (search rules)) in
    print_three _ _ _ _ _ _ _ _ _ front (c.write_data.ensures.text (search rules)) (c.write_text.ensures.text ok) refl
