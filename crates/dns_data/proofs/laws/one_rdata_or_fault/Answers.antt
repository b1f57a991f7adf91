use Rattle.dns_data.proofs.theory.DataReading as answers
use Rattle.dns_data.proofs.laws.one_rdata_or_fault.Goals as goal

pub returns : goal.returns
returns c = answers.one_rdata_or_fault
