use Rattle.std.proofs.Common.{arith}
use Rattle.dnsm_read.proofs.theory.OptLemmas.{fields_written}
use Rattle.dnsm_read.proofs.opts.ttl.Goals as goal

pub returns : goal.returns
returns c = fields_written c.args.opt.now _ _ _ c.from.ensures c.from-2.ensures c.from-3.ensures (omega arith) (omega arith)
