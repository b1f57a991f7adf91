use Rattle.std.proofs.Common.{List, Bool, ap, arith, subst}
use Rattle.std.specs.Prelude.{Result}
use Rattle.dns_name.specs.Names.{Fault}
use Rattle.dns_item.specs.ParsedRecord.{EncodedRecord}
use Rattle.dns_lines.proofs.theory.ShownRecords.{given_read, given_short}
use Rattle.dns_read.specs.RecordSection.{record_result, records_left}
use Rattle.dns_dig.proofs.LineTexts.{LinesPrinted, all_lines_printed, next_lines_printed, no_lines_printed}
use Rattle.dns_dig.proofs.OptItems.{left_kept, left_none, left_skipped}
use Rattle.dns_dig.specs.Sections.{is_additional, item_lines, items_left}
use Rattle.dns_dig.proofs.section.write_each.Goals as goal

pub loop-parsed-init : goal.loop-parsed-init
loop-parsed-init g c = no_lines_printed _ _ _ _ _ _ (ap (λ (b : Bool). items_left b (records_left c.args.records)) c.is_additional-elsewhere.ensures)

pub is_printed_before-requires-clause-read : goal.is_printed_before-requires-clause-read
is_printed_before-requires-clause-read g c = given_read c.loop-parsed.records c.next.new.self c.in-Some.parsed c.in-Some.ensures.moves

pub is_printed_before-requires-clause-short : goal.is_printed_before-requires-clause-short
is_printed_before-requires-clause-short g c = given_short c.in-Some.parsed (λ p e. let t = rw (c.in-Some.is, e) at c.next.type_inv in omega (arith, t))

pub write_item-requires-clause-read : goal.write_item-requires-clause-read
write_item-requires-clause-read g c = given_read c.loop-parsed.records c.next.new.self c.in-Some.parsed c.in-Some.ensures.moves

pub write_item-requires-clause-short : goal.write_item-requires-clause-short
write_item-requires-clause-short g c = given_short c.in-Some.parsed (λ p e. let t = rw (c.in-Some.is, e) at c.next.type_inv in omega (arith, t))

pub loop-parsed-preserved-then-is_printed_before : goal.loop-parsed-preserved-then-is_printed_before
loop-parsed-preserved-then-is_printed_before g c =
    subst (λ (left : List (Result EncodedRecord Fault)).
    LinesPrinted g.T.TextWriter.takes c.args.heading.now (item_lines c.args.section) c.args.writer.now c.loop-parsed.writer c.loop-parsed.begun left
    (items_left (is_additional c.args.section) (records_left c.args.records)))
    (left_skipped (records_left c.loop-parsed.records) (records_left c.next.new.self) (record_result c.in-Some.parsed) c.in-Some.ensures.steps c.is_printed_before.result c.loop-parsed.elsewhere
    c.is_printed_before.ensures c.if-is_printed_before.true) c.loop-parsed.invariant

pub loop-parsed-preserved : goal.loop-parsed-preserved
loop-parsed-preserved g c =
    next_lines_printed _ _ _ _ _ _ _ _ _ _ _ _ c.loop-parsed.invariant
    (left_kept (records_left c.loop-parsed.records) (records_left c.next.new.self) (record_result c.in-Some.parsed) c.in-Some.ensures.steps c.is_printed_before.result c.loop-parsed.elsewhere
    c.is_printed_before.ensures c.if-is_printed_before.false) c.in_ok-begun.ensures.text c.in_ok-begun.ensures.begun

pub returns-clause-text : goal.returns-clause-text
returns-clause-text g c = λ ok.
    all_lines_printed _ _ _ _ _ _ _ _ _ c.loop-parsed.invariant (left_none c.loop-parsed.elsewhere (records_left c.loop-parsed.records) c.in_default.ensures.steps.0) (c.write_end.ensures.text ok)
