use Rattle.std.proofs.Common.{◌-◌}
use Rattle.dns_name.proofs.theory.UncompressedNames.{UncompressedUpTo}
use Rattle.dns_name.proofs.name.check.Given as goal

abbrev pub invariant-walk : goal.invariant-walk
invariant-walk l = UncompressedUpTo l.octets l.size

abbrev pub decreases-walk : goal.decreases-walk
decreases-walk l = 255 - l.size
