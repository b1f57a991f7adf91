use Rattle.std.proofs.Common.{rules}
use Rattle.dns_read.specs.Message.{message_octets}
use Rattle.dns_print.proofs.theory.Prints.{print_three}
use Rattle.json_print.proofs.theory.Pieces.{three_lists}
use Rattle.dns_json.proofs.Readings.{answers_read, authorities_read, additionals_read}
use Rattle.dns_json.proofs.section.write_sections.Goals as goal
use Rattle.dns_read.specs.declared.section.Section.TheVariants.{Answer, Authority, Additional}
use Rattle.dns_json.specs.Messages.{reading_of, section_members}

pub returns-clause-text : goal.returns-clause-text
returns-clause-text g c = λ ok.
    let b = message_octets c.args.message.now in
    let answers = rw (answers_read b c.answer.result c.answer.ensures.starts c.answer.ensures.fault) at (c.write_section.ensures.text (search rules)) in
    let authorities = rw (authorities_read b c.authority.result c.authority.ensures.starts c.authority.ensures.fault) at (c.write_section-2.ensures.text (search rules)) in
    let additionals = rw (additionals_read b c.additional.result c.additional.ensures.starts c.additional.ensures.fault) at (c.write_section-3.ensures.text ok) in
    print_three _ _ _ _ _ _ _ _ _ answers authorities additionals
    (three_lists (section_members Answer (reading_of Answer b)) (section_members Authority (reading_of Authority b)) (section_members Additional (reading_of Additional b)))
