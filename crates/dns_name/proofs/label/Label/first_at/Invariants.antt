use Rattle.dns_name.proofs.theory.HeadLemmas.{Follows}
use Rattle.dns_name.proofs.label.Label.first_at.Given as goal

abbrev pub invariant-walk : goal.invariant-walk
invariant-walk l = Follows l.octets l.pos l.at

abbrev pub decreases-walk : goal.decreases-walk
decreases-walk l = l.at
