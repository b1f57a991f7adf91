use Rattle.dnsm_status.specs.Codes.{number_of}
use Rattle.dnsm_read.proofs.theory.DataLemmas.{no_data_in}
use Rattle.dnsm_put.proofs.copies.data_in.Goals as goal

pub returns-in-Err-clause-none : goal.returns-in-Err-clause-none
returns-in-Err-clause-none c = λ parts there. no_data_in c.args.message.now c.args.item.now (number_of c.in-Err.field-0) (c.in-Err.ensures.none c.requires) parts there
