use Rattle.std.proofs.Common.{ℕ, Some, None, Ok, Result, refl}
use Rattle.dns_name.specs.Names.{fault_of}
use Rattle.dns_read.proofs.theory.SectionStartLemmas.{start_found, no_authorities, no_additionals}
use Rattle.dns_read.specs.RecordSection.{octets_of, position}
use Rattle.dns_read.specs.declared.section.Section.TheVariants.{Answer, Authority, Additional}
use Rattle.dns_lines.proofs.SectionTexts.{section_printed, last_printed, sections_printed}
use Rattle.dns_lines.proofs.WalkLemmas.{next_begins, isnt_last, authorities_stop, additionals_stop}
use Rattle.dns_lines.proofs.record_lines.print_sections.Goals as goal

pub following-requires : goal.following-requires
following-requires g c = isnt_last Answer _ c.args.answer c.in_ok-answer.answer c.requires c.in_ok-answer.ensures.follows (λ e. cc)

pub returns-in_default : goal.returns-in_default
returns-in_default g c =
    let b = octets_of c.args.answer in
    let text = g.L.RecordLines.item_text in
    let missing = g.L.RecordLines.missing_text in
    let r = c.print_missing.result in
    let stops = authorities_stop b c.args.answer c.in_ok-answer.answer c.in_default.field-0 c.requires c.in_ok-answer.ensures.follows c.in_default.ensures in
    sections_printed text missing b _ _ r (Some (position c.args.answer)) None _ (start_found Answer b (position c.args.answer) c.requires.start)
    (no_authorities b (fault_of c.in_default.field-0) stops) refl
    (section_printed text missing b Answer c.args.answer c.requires _ _ _ r _ c.in_ok-answer.ensures.printed c.print_missing.ensures)

pub returns-in_default-following : goal.returns-in_default-following
returns-in_default-following g c =
    let b = octets_of c.args.answer in
    let text = g.L.RecordLines.item_text in
    let missing = g.L.RecordLines.missing_text in
    let answer = c.args.answer in
    let authority = c.in-Ok.authority in
    let r = c.print_missing-in_default-following.result in
    let begins = next_begins Answer b answer c.in_ok-answer.answer c.requires c.in_ok-answer.ensures.follows Authority authority refl c.in-Ok.ensures in
    let stops = additionals_stop b authority c.in_ok-authority.authority c.in_default-following.field-0 begins c.in_ok-authority.ensures.follows c.in_default-following.ensures in
    sections_printed text missing b _ _ r (Some (position answer)) (Some (position authority)) None (start_found Answer b (position answer) c.requires.start)
    (start_found Authority b (position authority) begins.start) (no_additionals b (fault_of c.in_default-following.field-0) stops)
    (section_printed text missing b Answer answer c.requires _ _ _ r _ c.in_ok-answer.ensures.printed
    (section_printed text missing b Authority authority begins _ _ _ r _ c.in_ok-authority.ensures.printed c.print_missing-in_default-following.ensures))

pub returns : goal.returns
returns g c =
    let b = octets_of c.args.answer in
    let text = g.L.RecordLines.item_text in
    let missing = g.L.RecordLines.missing_text in
    let answer = c.args.answer in
    let authority = c.in-Ok.authority in
    let additional = c.in-Ok-following.additional in
    let done : Result ℕ ℕ = Ok 0 in
    let second = next_begins Answer b answer c.in_ok-answer.answer c.requires c.in_ok-answer.ensures.follows Authority authority refl c.in-Ok.ensures in
    let third = next_begins Authority b authority c.in_ok-authority.authority second c.in_ok-authority.ensures.follows Additional additional refl c.in-Ok-following.ensures in
    sections_printed text missing b _ _ done (Some (position answer)) (Some (position authority)) (Some (position additional)) (start_found Answer b (position answer) c.requires.start)
    (start_found Authority b (position authority) second.start) (start_found Additional b (position additional) third.start)
    (section_printed text missing b Answer answer c.requires _ _ _ done _ c.in_ok-answer.ensures.printed
    (section_printed text missing b Authority authority second _ _ _ done _ c.in_ok-authority.ensures.printed
    (last_printed text missing b Additional additional third _ _ done c.in_ok-print_section.ensures.printed)))
