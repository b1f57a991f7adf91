use Rattle.std.proofs.Common.{length, ◌-◌}
use Rattle.dns_name.proofs.theory.HeadLemmas.{Skips}
use Rattle.dns_edit.proofs.WalkLemmas.{Walking}
use Rattle.dns_edit.proofs.labels.walk_name.Given as goal

abbrev pub invariant-walk : goal.invariant-walk
invariant-walk l = Skips l.octets l.start l.pos l.size × Walking l.octets l.start l.pos l.fn.marks l.marks

abbrev pub decreases-walk : goal.decreases-walk
decreases-walk l = length l.octets - l.pos
