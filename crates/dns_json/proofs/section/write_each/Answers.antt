use Rattle.std.proofs.Common.{List, ap, map, refl, arith}
use Rattle.std.specs.Prelude.{Result}
use Rattle.dns_name.specs.Names.{Fault}
use Rattle.dns_item.specs.ParsedRecord.{EncodedRecord}
use Rattle.dns_lines.proofs.theory.ShownRecords.{given_read, given_short}
use Rattle.json_print.proofs.theory.Pieces.{no_items_printed, items_printed_more, all_items_printed}
use Rattle.dns_json.specs.Entries.{readable}
use Rattle.dns_json.specs.Records.{record_json}
use Rattle.dns_json.proofs.EntryTexts.{entry_first}
use Rattle.dns_json.proofs.section.write_each.Goals as goal
use Rattle.dns_read.specs.RecordSection.{record_result, records_left}

pub loop-parsed-init : goal.loop-parsed-init
loop-parsed-init g c = no_items_printed _ _ _ _ refl

pub write_item-requires-clause-read : goal.write_item-requires-clause-read
write_item-requires-clause-read g c = given_read c.loop-parsed.records c.next.new.self c.in-Some.parsed c.in-Some.ensures.moves

pub write_item-requires-clause-short : goal.write_item-requires-clause-short
write_item-requires-clause-short g c = given_short c.in-Some.parsed (λ p e. let t = rw (c.in-Some.is, e) at c.next.type_inv in omega (arith, t))

pub loop-parsed-preserved : goal.loop-parsed-preserved
loop-parsed-preserved g c =
    items_printed_more _ _ _ _ _ _ _ _ _ _ c.loop-parsed.invariant c.in_ok-later.ensures.text
    (entry_first record_json c.loop-parsed.later _ (records_left c.loop-parsed.records) (record_result c.in-Some.parsed)
    (records_left c.next.new.self) c.in-Some.ensures.steps c.in_ok-later.ensures.later)

pub returns-clause-text : goal.returns-clause-text
returns-clause-text g c = λ ok.
    all_items_printed _ _ _ _ _ _ c.loop-parsed.invariant
    (ap (λ (xs : List (Result EncodedRecord Fault)). map record_json (readable xs)) c.in_default.ensures.steps.0)
