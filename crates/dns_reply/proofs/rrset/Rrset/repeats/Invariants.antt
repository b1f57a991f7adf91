use Rattle.std.proofs.Common.{◌≡◌, length}
use Rattle.dns_item.specs.ParsedRecord.{encoded_record}
use Rattle.dns_reply.specs.RrsetMembers.{repeats}
use Rattle.dns_reply.specs.Rrsets.{members_left}
use Rattle.dns_reply.proofs.rrset.Rrset.repeats.Given as goal

abbrev pub invariant-loop-item : goal.invariant-loop-item
invariant-loop-item l = repeats (encoded_record l.member) (members_left l.left) ≡ repeats (encoded_record l.member) (members_left l.fn.self)

abbrev pub decreases-loop-item : goal.decreases-loop-item
decreases-loop-item l = length (members_left l.left)
