use Rattle.std.proofs.Common.{◌-◌}
use Rattle.dns_name.proofs.theory.Steps.{Skipped}
use Rattle.dns_name.proofs.label_iter.LabelIterDoubleEndedIterator.next_back.Given as goal

abbrev pub invariant-walk : goal.invariant-walk
invariant-walk l = Skipped l.self.octets.now l.self.labels_at.0.0 l.self.labels_at.1.0 l.pos l.skipped

abbrev pub decreases-walk : goal.decreases-walk
decreases-walk l = l.self.left - l.skipped
