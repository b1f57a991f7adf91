use Rattle.dns_edit.proofs.ReplaceLemmas.{replaced_reads_alike}
use Rattle.dns_edit.proofs.laws.replaced_reads_alike.Goals as goal

pub returns : goal.returns
returns c = replaced_reads_alike
