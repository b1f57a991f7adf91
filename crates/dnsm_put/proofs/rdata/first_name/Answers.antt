use Rattle.std.proofs.Common.{arith, refl}
use Rattle.dnsm_put.proofs.RdataWritten.{begun_none, begun_label, begun_root, begun_end}
use Rattle.dnsm_put.proofs.rdata.first_name.Goals as goal

pub loop-i-init : goal.loop-i-init
loop-i-init c = begun_none c.args.octets.now

pub returns-then-octets-i-eq0-clause-name : goal.returns-then-octets-i-eq0-clause-name
returns-then-octets-i-eq0-clause-name c = begun_root c.args.octets.now c.loop-i.i c.loop-i.invariant c.if-octets-i-eq0.true

pub loop-i-preserved : goal.loop-i-preserved
loop-i-preserved c = begun_label c.args.octets.now c.loop-i.i _ _ c.loop-i.invariant refl c.if-octets-i-eq0.false (omega arith)

pub returns-clause-name : goal.returns-clause-name
returns-clause-name c = λ n rest is e. absurd (begun_end c.args.octets.now c.loop-i.i c.loop-i.invariant (omega arith) n rest is e)
