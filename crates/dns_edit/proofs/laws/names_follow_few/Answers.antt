use Rattle.dns_edit.proofs.FollowLemmas.{names_follow_few}
use Rattle.dns_edit.proofs.laws.names_follow_few.Goals as goal

pub returns : goal.returns
returns c = names_follow_few
