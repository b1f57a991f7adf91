use Rattle.std.proofs.Common.{◌≡◌, length}
use Rattle.dns_name.specs.ParsedName.{labels}
use Rattle.dns_read.specs.Limited.{limited}
use Rattle.dns_read.specs.RecordIter.{typed_left}
use Rattle.dns_read.specs.RecordSection.{records_left}
use Rattle.dns_reply.specs.Finding.{first_found}
use Rattle.dns_reply.proofs.find.first_found.Given as goal

abbrev pub invariant-loop-item : goal.invariant-loop-item
invariant-loop-item g l =
    let layouts = g.D.ParseRecordData.layout in
    first_found l.owner l.qclass (labels l.zone) (labels l.name) (typed_left layouts l.records)
    ≡ first_found l.owner l.qclass (labels l.zone) (labels l.name) (limited layouts (records_left l.fn.section))

abbrev pub decreases-loop-item : goal.decreases-loop-item
decreases-loop-item g l = length (typed_left g.D.ParseRecordData.layout l.records)
