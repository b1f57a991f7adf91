use Rattle.std.proofs.Common.{length, map}
use Rattle.dns_read.specs.RecordSection.{records_left}
use Rattle.json_print.proofs.theory.Pieces.{ItemsPrinted}
use Rattle.dns_json.specs.Entries.{readable}
use Rattle.dns_json.specs.Records.{record_json}
use Rattle.dns_json.proofs.section.write_each.Given as goal

abbrev pub invariant-loop-parsed : goal.invariant-loop-parsed
invariant-loop-parsed g l =
    ItemsPrinted g.T.TextWriter.takes l.fn.writer l.writer l.later (map record_json (readable (records_left l.records))) (map record_json (readable (records_left l.fn.records)))

abbrev pub decreases-loop-parsed : goal.decreases-loop-parsed
decreases-loop-parsed g l = length (records_left l.records)
