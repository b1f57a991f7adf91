use Rattle.dns_read.proofs.NthNameLemmas.{one_canonical_name}
use Rattle.dns_read.proofs.search_laws.one_canonical_name.Goals as goal

pub returns : goal.returns
returns c = one_canonical_name
