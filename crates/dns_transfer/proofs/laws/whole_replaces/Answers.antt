use Rattle.dns_transfer.proofs.ZoneLemmas.{whole_is_made, whole_replaces}
use Rattle.dns_transfer.proofs.laws.whole_replaces.Goals as goal

pub returns-clause-axfr : goal.returns-clause-axfr
returns-clause-axfr c = whole_is_made

pub returns-clause-ixfr : goal.returns-clause-ixfr
returns-clause-ixfr c = whole_replaces
