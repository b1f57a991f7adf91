use Rattle.dns_wire.specs.Parts.{Octets}
use Rattle.dns_data.specs.Opt.{opt_octets}
use Rattle.dns_data.proofs.ComposedParts.{one_part_composes}
use Rattle.dns_data.proofs.opt.OptComposeRecordData.compose_rdata.Goals as goal

pub returns-clause-composes : goal.returns-clause-composes
returns-clause-composes g c = one_part_composes _ _ _ (Octets (opt_octets c.args.self.now)) _ _ _ (rw c.octets.ensures at c.append_slice.ensures)
