use Rattle.dns_edit.proofs.CaseLemmas.{case_reads_alike}
use Rattle.dns_edit.proofs.laws.case_reads_alike.Goals as goal

pub returns : goal.returns
returns c = case_reads_alike
