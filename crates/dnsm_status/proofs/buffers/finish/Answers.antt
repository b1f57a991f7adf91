use Rattle.std.proofs.Common.{arith}
use Rattle.dnsm_status.proofs.theory.PieceLemmas.{terminated}
use Rattle.dnsm_status.proofs.buffers.finish.Goals as goal

pub returns-clause-text : goal.returns-clause-text
returns-clause-text c = λ text h done. terminated c.args.out.now text c.args.end (omega arith) (omega arith) h
