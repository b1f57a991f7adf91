use Rattle.dns_wire.specs.Parts.{Octets}
use Rattle.dns_data.specs.UnknownData.{unknown_octets}
use Rattle.dns_data.proofs.ComposedParts.{one_part_composes}
use Rattle.dns_data.proofs.unknown.UnknownRecordDataComposeRecordData.compose_rdata.Goals as goal

pub returns-clause-composes : goal.returns-clause-composes
returns-clause-composes g c = one_part_composes _ _ _ (Octets (unknown_octets c.args.self.now)) _ _ _ (rw c.octets.ensures at c.append_slice.ensures)
