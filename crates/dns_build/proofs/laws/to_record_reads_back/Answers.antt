use Rattle.dns_build.proofs.TypedReading.{to_record_reads_back}
use Rattle.dns_build.proofs.laws.to_record_reads_back.Goals as goal

pub returns : goal.returns
returns g c = to_record_reads_back g.D.RecordData.rtype_of g.D.RecordData.parts g.D.ParseRecordData.layout
