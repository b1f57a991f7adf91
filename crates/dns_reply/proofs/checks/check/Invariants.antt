use Rattle.std.proofs.Common.{◌≡◌}
use Rattle.dns_read.specs.Limited.{limited}
use Rattle.dns_read.specs.RecordIter.{typed_left}
use Rattle.dns_read.specs.RecordSection.{records_left}
use Rattle.dns_reply.specs.Records.{first_fault}
use Rattle.dns_reply.proofs.checks.check.Given as goal

abbrev pub invariant-loop-item : goal.invariant-loop-item
invariant-loop-item g l =
    let layouts = g.D.ParseRecordData.layout in
    first_fault (typed_left layouts l.item-iterator) ≡ first_fault (limited layouts (records_left l.fn.section))
