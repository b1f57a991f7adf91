use Rattle.dns_read.specs.StartOrFault.{one_start}
use Rattle.dns_read.proofs.laws.one_start.Goals as goal

pub returns : goal.returns
returns c = one_start
