use Rattle.dns_wire.specs.Parts.{Octets}
use Rattle.dns_data.specs.A.{address_of}
use Rattle.dns_data.proofs.ComposedParts.{one_part_composes}
use Rattle.dns_data.proofs.a.AComposeRecordData.compose_rdata.Goals as goal

pub returns-clause-composes : goal.returns-clause-composes
returns-clause-composes g c = one_part_composes _ _ _ (Octets (address_of c.args.self.now)) _ _ _ c.append_slice.ensures
