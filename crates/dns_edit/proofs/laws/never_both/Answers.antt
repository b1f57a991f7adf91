use Rattle.dns_edit.proofs.OnceLemmas.{never_both}
use Rattle.dns_edit.proofs.laws.never_both.Goals as goal

pub returns : goal.returns
returns c = never_both
