use Rattle.std.proofs.Common.{arith}
use Rattle.dnsm_make.proofs.target.are_at.Goals as goal

pub returns : goal.returns
returns c = λ found. record { within = omega arith; same = c.same.ensures.0 found }
