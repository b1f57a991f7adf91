use Rattle.std.proofs.Common.{subst, sym}
use Rattle.dns_name.specs.Uncompressed.{WholeName}
use Rattle.dns_name.proofs.name.NameToName.as_parsed.Goals as goal

pub of_whole-requires : goal.of_whole-requires
of_whole-requires g c = subst WholeName (sym c.octets.ensures) c.args.self.now.whole
