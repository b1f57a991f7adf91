use Rattle.std.proofs.Common.{refl, rules}
use Rattle.dns_print.proofs.theory.Prints.{print_three}
use Rattle.dns_read.specs.Message.{message_octets}
use Rattle.dns_dig.proofs.Readings.{answers_read, authorities_read, additionals_read}
use Rattle.dns_dig.proofs.message.write_record_sections.Goals as goal

pub returns-clause-text : goal.returns-clause-text
returns-clause-text g c = λ ok.
    let b = message_octets c.args.message.now in
    let opcode = c.opcode-opcode.ensures in
    let header = c.header.ensures in
    let answers = rw (answers_read b c.answer.result c.answer.ensures.starts c.answer.ensures.fault, opcode, header) at (c.write_records.ensures.text (search rules)) in
    let authorities = rw (authorities_read b c.authority.result c.authority.ensures.starts c.authority.ensures.fault, opcode, header) at (c.write_records-2.ensures.text (search rules)) in
    let additionals = rw (additionals_read b c.additional.result c.additional.ensures.starts c.additional.ensures.fault, opcode, header) at (c.write_records-3.ensures.text ok) in
    print_three _ _ _ _ _ _ _ _ _ answers authorities additionals refl
