use Rattle.dns_wire.specs.Parts.{CompressibleName}
use Rattle.dns_data.proofs.ComposedParts.{one_part_composes, name_is_data}
use Rattle.dns_data.proofs.name_data.compose_name.Goals as goal

pub returns-clause-composes : goal.returns-clause-composes
returns-clause-composes g c =
    one_part_composes _ _ _ (CompressibleName (g.N.ToName.name c.args.name.now)) _ _ _ c.append_compressed_name.ensures

pub returns-clause-is_data : goal.returns-clause-is_data
returns-clause-is_data g c = name_is_data _ (g.met.N.ToName.is_name c.args.name.now)
