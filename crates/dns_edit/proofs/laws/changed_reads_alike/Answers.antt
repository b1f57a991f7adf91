use Rattle.dns_edit.proofs.ReadLemmas.{changed_reads_alike}
use Rattle.dns_edit.proofs.laws.changed_reads_alike.Goals as goal

pub returns : goal.returns
returns c = changed_reads_alike
