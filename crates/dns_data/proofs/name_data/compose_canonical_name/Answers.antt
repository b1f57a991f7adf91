use Rattle.dns_name.specs.Names.{lowered, uncompressed}
use Rattle.dns_wire.specs.Parts.{Octets}
use Rattle.dns_data.proofs.ComposedParts.{one_part_composes}
use Rattle.dns_data.proofs.name_data.compose_canonical_name.Goals as goal

pub returns : goal.returns
returns g c = one_part_composes _ _ _ (Octets (uncompressed (lowered (g.N.ToName.name c.args.name.now)))) _ _ _ c.compose_canonical.ensures
