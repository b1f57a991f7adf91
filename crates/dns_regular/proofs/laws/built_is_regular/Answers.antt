use Rattle.dns_regular.proofs.Regular.{built_is_regular as law}
use Rattle.dns_regular.proofs.laws.built_is_regular.Goals as goal

pub returns : goal.returns
returns c = law
