use Rattle.std.proofs.Common.{◌≡◌, length}
use Rattle.dns_read.specs.RecordSection.{records_left}
use Rattle.dns_reply.specs.Rrsets.{members_left}
use Rattle.dns_reply.proofs.rrset.Rrset.next.Given as goal

abbrev pub invariant-loop-item : goal.invariant-loop-item
invariant-loop-item l = members_left l.self ≡ members_left l.fn.self

abbrev pub decreases-loop-item : goal.decreases-loop-item
decreases-loop-item l = length (records_left l.self.cursor)
