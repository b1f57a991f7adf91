use Rattle.std.proofs.Common.{rules}
use Rattle.dns_print.proofs.theory.Prints.{print_four}
use Rattle.fields_records.proofs.RecordLines.{line_parts}
use Rattle.fields_records.proofs.record_text.write_record_text.Goals as goal

pub returns-clause-text : goal.returns-clause-text
returns-clause-text g c =
    λ ok.
    let owner = rw (c.as_parsed.ensures.labels, c.owner.ensures) at (c.write_zone_name.ensures.text (search rules)) in
    let space = c.write_text.ensures.text (search rules) in
    let middle = rw (c.as_secs.ensures, c.ttl.ensures, c.class.ensures) at (c.write_ttl_and_class.ensures.text (search rules)) in
    let last = rw (c.rtype.ensures, c.«data».ensures) at (c.write_type_and_data.ensures.text ok) in
    print_four _ _ _ _ _ _ _ _ _ _ _ owner space middle last (line_parts _ _ _ _ _)
