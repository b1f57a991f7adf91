use Rattle.std.proofs.Common.{◌+◌, ◌-◌}
use Rattle.dns_name.proofs.theory.CachedNames.{Leading}
use Rattle.dns_name.proofs.parsed_name.ParsedName.size_at.Given as goal

abbrev pub invariant-walk : goal.invariant-walk
invariant-walk l = Leading l.octets l.start l.before l.pos l.size l.count

abbrev pub decreases-walk : goal.decreases-walk
decreases-walk l = l.pos + (255 - l.size)
