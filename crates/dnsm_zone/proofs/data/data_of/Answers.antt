use Rattle.dnsm_zone.proofs.LineLemmas.{no_data}
use Rattle.dnsm_zone.proofs.data.data_of.Goals as goal

pub returns-in-Err-clause-none : goal.returns-in-Err-clause-none
returns-in-Err-clause-none c = no_data c.args.rtype c.from_int.result c.args.words.now c.in-Err.error c.fault_of.result c.from_int.ensures c.fault_of.ensures c.in-Err.ensures
