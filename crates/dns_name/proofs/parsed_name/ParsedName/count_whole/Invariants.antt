use Rattle.std.proofs.Common.{length, ◌-◌}
use Rattle.dns_name.proofs.theory.UncompressedNames.{Counted}
use Rattle.dns_name.proofs.parsed_name.ParsedName.count_whole.Given as goal

abbrev pub invariant-walk : goal.invariant-walk
invariant-walk l = Counted l.octets l.pos l.count

abbrev pub decreases-walk : goal.decreases-walk
decreases-walk l = length l.octets - l.pos
