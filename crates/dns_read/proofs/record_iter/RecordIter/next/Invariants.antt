use Rattle.std.proofs.Common.{◌≡◌, length}
use Rattle.dns_read.specs.Limited.{limited_by}
use Rattle.dns_read.specs.RecordIter.{cursor_of, takes_in_only}
use Rattle.dns_read.specs.RecordSection.{records_left}
use Rattle.dns_read.proofs.LimitedLemmas.{SkipsSoFar}
use Rattle.dns_read.proofs.record_iter.RecordIter.next.Given as goal

abbrev pub invariant-loop-item : goal.invariant-loop-item
invariant-loop-item g l =
    (takes_in_only l.self ≡ takes_in_only l.fn.self)
    × SkipsSoFar (limited_by g.D.ParseRecordData.layout (takes_in_only l.fn.self)) (cursor_of l.fn.self) (cursor_of l.self)

abbrev pub decreases-loop-item : goal.decreases-loop-item
decreases-loop-item g l = length (records_left (cursor_of l.self))
