use Rattle.std.proofs.Common.{refl, rules}
use Rattle.dns_print.proofs.theory.Prints.{print_four}
use Rattle.dns_read.specs.Message.{message_octets}
use Rattle.dns_dig.proofs.Readings.{additionals_read}
use Rattle.dns_dig.proofs.message.write_dig.Goals as goal

pub returns-clause-text : goal.returns-clause-text
returns-clause-text g c = λ ok.
    let b = message_octets c.args.message.now in
    let opts = rw (additionals_read b c.additional.result c.additional.ensures.starts c.additional.ensures.fault) at (c.write_opts.ensures.text (search rules)) in
    print_four _ _ _ _ _ _ _ _ _ _ _ (c.write_header.ensures.text (search rules)) opts (c.write_sections.ensures.text (search rules)) (c.write_signatures.ensures.text ok) refl
