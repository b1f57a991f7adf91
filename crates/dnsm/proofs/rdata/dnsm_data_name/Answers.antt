use Rattle.dnsm_read.proofs.theory.DataNameLemmas.{name_read, name_within}
use Rattle.dnsm.proofs.rdata.dnsm_data_name.Goals as goal

pub returns-in-Ok-clause-read : goal.returns-in-Ok-clause-read
returns-in-Ok-clause-read c = λ done. name_read c.args.message.now c.args.item.now c.args.index c.in-Ok.found c.in-Ok.ensures.name

pub returns-in-Ok-clause-within : goal.returns-in-Ok-clause-within
returns-in-Ok-clause-within c = λ done. name_within c.args.message.now c.args.item.now c.args.index c.in-Ok.found c.in-Ok.ensures.name
