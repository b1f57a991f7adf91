use Rattle.dns_item.specs.ParsedRecord.{encoded_record}
use Rattle.dnsm_read.proofs.DataTextLemmas.{by_fields, malformed}
use Rattle.dnsm_status.proofs.theory.PieceLemmas.{holds_as}
use Rattle.dnsm_read.proofs.data_text.write_data.Goals as goal

pub returns-in-Ok : goal.returns-in-Ok
returns-in-Ok c =
    let x = encoded_record c.args.found.now in
    let given = (rw c.in-Ok.is at c.to_any_record.ensures.returned).gives c.requires.span.end in
    holds_as _ _ _ _ (by_fields x c.requires.span c.in-Ok.record given) (rw c.data.ensures at c.write_fields.ensures)

pub returns-in-Err : goal.returns-in-Err
returns-in-Err c =
    let x = encoded_record c.args.found.now in
    let returned = rw c.in-Err.is at c.to_any_record.ensures.returned in
    holds_as _ _ _ _ (malformed x c.requires.span c.in-Err.field-0 _ (returned.gives c.requires.span.end) c.requires.opaque) c.write_octets.ensures
