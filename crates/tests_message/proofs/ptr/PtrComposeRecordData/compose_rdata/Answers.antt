use Rattle.dns_message.specs.Data.{CompressibleName}
use Rattle.tests_message.proofs.ptr.PtrComposeRecordData.compose_rdata.Goals as goal

pub returns-clause-composes : goal.returns-clause-composes
returns-clause-composes g c = c.parts_compose.ensures.one _ _ _ (CompressibleName (g.N.ToName.name c.args.self.now.0)) _ _ _ c.append_compressed_name.ensures
