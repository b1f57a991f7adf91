use Rattle.std.proofs.Common.{◌≡◌, length}
use Rattle.dns_read.specs.RecordSection.{position, records_left}
use Rattle.dns_dig.specs.Header.{end_of}
use Rattle.dns_dig.proofs.end.end_of.Given as goal

abbrev pub invariant-loop-parsed : goal.invariant-loop-parsed
invariant-loop-parsed l = end_of (position l.records) (records_left l.records) ≡ end_of (position l.fn.records) (records_left l.fn.records)

abbrev pub decreases-loop-parsed : goal.decreases-loop-parsed
decreases-loop-parsed l = length (records_left l.records)
