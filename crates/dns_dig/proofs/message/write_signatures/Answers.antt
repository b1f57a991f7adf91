use Rattle.std.proofs.Common.{refl, rules}
use Rattle.dns_print.proofs.theory.Prints.{print_two}
use Rattle.dns_read.specs.Message.{message_octets}
use Rattle.dns_dig.proofs.Readings.{additionals_read}
use Rattle.dns_dig.proofs.message.write_signatures.Goals as goal

pub returns-clause-text : goal.returns-clause-text
returns-clause-text g c = λ ok.
    let b = message_octets c.args.message.now in
    let tsig = rw (additionals_read b c.additional.result c.additional.ensures.starts c.additional.ensures.fault) at (c.write_all.ensures.text (search rules)) in
    let sig0 = rw (additionals_read b c.additional-2.result c.additional-2.ensures.starts c.additional-2.ensures.fault) at (c.write_all-2.ensures.text ok) in
    print_two _ _ _ _ _ _ _ tsig sig0 refl
