use Rattle.std.proofs.Common.{arith}
use Rattle.dnsm_status.proofs.theory.PieceLemmas.{all_held}
use Rattle.dnsm_status.proofs.buffers.finish_octets.Goals as goal

pub returns-clause-octets : goal.returns-clause-octets
returns-clause-octets c = λ octets h small done. let counted = h.counted in (all_held c.args.out.now octets c.args.size (omega arith) (omega arith) (omega arith) h).1
