use Rattle.std.proofs.Common.{arith}
use Rattle.dnsm_put.proofs.Steps.{flat_at}
use Rattle.dnsm_put.proofs.names.is_at.Goals as goal

pub returns-then-same-clause-name : goal.returns-then-same-clause-name
returns-then-same-clause-name c = λ t n is e. flat_at c.args.octets.now c.args.name.now c.args.offset n is e (omega arith) (omega arith) (c.same.ensures.0 c.if-same.true)
