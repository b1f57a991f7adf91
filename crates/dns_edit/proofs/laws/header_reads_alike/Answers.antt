use Rattle.dns_edit.proofs.RegularLemmas.{header_reads_alike}
use Rattle.dns_edit.proofs.laws.header_reads_alike.Goals as goal

pub returns : goal.returns
returns c = header_reads_alike
