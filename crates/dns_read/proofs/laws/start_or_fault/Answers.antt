use Rattle.dns_read.specs.StartOrFault.{start_or_fault}
use Rattle.dns_read.proofs.laws.start_or_fault.Goals as goal

pub returns : goal.returns
returns c = start_or_fault
