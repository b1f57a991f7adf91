use Rattle.dns_edit.proofs.ReadBackLemmas.{replaced_reads_back}
use Rattle.dns_edit.proofs.laws.option_reads_back.Goals as goal

pub returns : goal.returns
returns c = replaced_reads_back
