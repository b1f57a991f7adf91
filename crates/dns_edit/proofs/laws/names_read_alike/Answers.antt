use Rattle.dns_edit.proofs.StayLemmas.{names_read_alike}
use Rattle.dns_edit.proofs.laws.names_read_alike.Goals as goal

pub returns : goal.returns
returns c = names_read_alike
