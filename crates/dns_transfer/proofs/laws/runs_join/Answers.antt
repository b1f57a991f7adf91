use Rattle.dns_transfer.proofs.theory.RunLemmas.{runs_join}
use Rattle.dns_transfer.proofs.laws.runs_join.Goals as goal

pub returns : goal.returns
returns c = runs_join
