use Rattle.dns_transfer.proofs.ZoneLemmas.{changes_lead}
use Rattle.dns_transfer.proofs.laws.changes_lead.Goals as goal

pub returns : goal.returns
returns c = changes_lead
