use Rattle.dns_edit.proofs.DataLemmas.{rdata_reads_alike}
use Rattle.dns_edit.proofs.laws.rdata_reads_alike.Goals as goal

pub returns : goal.returns
returns c = rdata_reads_alike
