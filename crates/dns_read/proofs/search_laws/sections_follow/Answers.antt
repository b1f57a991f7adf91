use Rattle.dns_read.proofs.MessageIterLemmas.{sections_follow}
use Rattle.dns_read.proofs.search_laws.sections_follow.Goals as goal

pub returns : goal.returns
returns c = sections_follow
