use Rattle.std.proofs.Common.{length, ◌+◌, ◌-◌}
use Rattle.dns_name.proofs.theory.CachedNames.{SkippingLabels}
use Rattle.dns_name.proofs.head.Head.after_labels.Given as goal

abbrev pub invariant-walk : goal.invariant-walk
invariant-walk l = SkippingLabels l.octets l.start l.size l.pos (l.size + (l.pos - l.start)) l.count

abbrev pub decreases-walk : goal.decreases-walk
decreases-walk l = length l.octets - l.pos
