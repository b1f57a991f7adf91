use Rattle.dns_edit.proofs.RcodeLemmas.{removed_rcode}
use Rattle.dns_edit.proofs.RegularLemmas.{removed_reads_alike}
use Rattle.dns_edit.proofs.laws.removed_reads_alike.Goals as goal

pub returns-clause-alike : goal.returns-clause-alike
returns-clause-alike c = removed_reads_alike

pub returns-clause-rcode : goal.returns-clause-rcode
returns-clause-rcode c = removed_rcode
