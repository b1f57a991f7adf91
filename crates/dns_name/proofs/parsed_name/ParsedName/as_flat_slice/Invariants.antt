use Rattle.std.proofs.Common.{length, ◌-◌}
use Rattle.dns_name.specs.ParsedName.{labels}
use Rattle.dns_name.proofs.FlatNames.{Flat}
use Rattle.dns_name.proofs.parsed_name.ParsedName.as_flat_slice.Given as goal

abbrev pub invariant-walk : goal.invariant-walk
invariant-walk l = Flat l.self.octets.now l.self.pos l.pos (labels l.self)

abbrev pub decreases-walk : goal.decreases-walk
decreases-walk l = length l.self.octets.now - l.pos
