use Rattle.dns_edit.proofs.AskedLemmas.{asks_for_names}
use Rattle.dns_edit.proofs.laws.asks_for_names.Goals as goal

pub returns : goal.returns
returns c = asks_for_names
