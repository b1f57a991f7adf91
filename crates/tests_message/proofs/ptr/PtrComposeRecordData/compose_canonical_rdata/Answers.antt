use Rattle.dns_message.specs.Names.{lowered, uncompressed}
use Rattle.dns_message.specs.Data.{Octets}
use Rattle.tests_message.proofs.ptr.PtrComposeRecordData.compose_canonical_rdata.Goals as goal

pub returns : goal.returns
returns g c = c.parts_compose.ensures.one _ _ _ (Octets (uncompressed (lowered (g.N.ToName.name c.args.self.now.0)))) _ _ _ c.compose_canonical.ensures
