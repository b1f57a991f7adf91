use Rattle.std.proofs.Common.{subst}
use Rattle.dns_name.specs.Uncompressed.{WholeName}
use Rattle.dns_name.proofs.name.Name.from_octets.Goals as goal

pub of_whole-requires : goal.of_whole-requires
of_whole-requires g c = subst WholeName c.octets.ensures c.in_ok-check.ensures.name
