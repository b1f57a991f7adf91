use Rattle.std.proofs.Common.{length, ◌-◌}
use Rattle.dns_name.proofs.theory.HeadLemmas.{Skips}
use Rattle.dns_name.proofs.parsed_name.ParsedName.skip.Given as goal

abbrev pub invariant-walk : goal.invariant-walk
invariant-walk l = Skips l.octets l.start l.pos l.size

abbrev pub decreases-walk : goal.decreases-walk
decreases-walk l = length l.octets - l.pos
