use Rattle.std.proofs.Common.{length}
use Rattle.dns_read.specs.RecordSection.{records_left}
use Rattle.dns_dig.proofs.LineTexts.{LinesPrinted}
use Rattle.dns_dig.specs.Sections.{is_additional, item_lines, items_left}
use Rattle.dns_dig.proofs.section.write_each.Given as goal

abbrev pub invariant-loop-parsed : goal.invariant-loop-parsed
invariant-loop-parsed g l =
    LinesPrinted g.T.TextWriter.takes l.heading (item_lines l.section) l.fn.writer l.writer l.begun (items_left l.elsewhere (records_left l.records))
    (items_left (is_additional l.section) (records_left l.fn.records))

abbrev pub decreases-loop-parsed : goal.decreases-loop-parsed
decreases-loop-parsed g l = length (records_left l.records)
