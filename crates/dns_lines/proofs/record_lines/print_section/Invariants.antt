use Rattle.std.proofs.Common.{length}
use Rattle.dns_read.specs.RecordSection.{records_left}
use Rattle.dns_lines.proofs.theory.PrintedLines.{Printed}
use Rattle.dns_lines.proofs.WalkLemmas.{RecordsRead}
use Rattle.dns_lines.proofs.record_lines.print_section.Given as goal

abbrev pub invariant-loop-parsed : goal.invariant-loop-parsed
invariant-loop-parsed g l = record {
  printed : Printed (g.L.RecordLines.item_text l.fn.section) (g.W.Write.contents l.fn.writer) (g.W.Write.contents l.writer) (records_left l.records) (records_left l.fn.records);
  read : RecordsRead l.fn.records l.readable l.records;
}

abbrev pub decreases-loop-parsed : goal.decreases-loop-parsed
decreases-loop-parsed g l = length (records_left l.records)
