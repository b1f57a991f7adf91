use Rattle.std.proofs.Common.{arith}
use Rattle.dns_script.proofs.Histories.{goes_on, runs_all}
use Rattle.dns_script.proofs.script.run.Goals as goal

pub loop-call-preserved : goal.loop-call-preserved
loop-call-preserved g c = record {
  goes_on = goes_on _ _ _ _ _ _ _ _ _ _ _ _ _ _ _ c.loop-call-test.true c.call-item.is c.push_reserved.ensures.items c.loop-call.invariant.goes_on c.step-next.ensures.steps;
  capacity = omega (arith, c.loop-call.invariant.capacity, c.push_reserved.ensures.len, c.push_reserved.ensures.capacity, c.loop-call-test.true);
}

pub returns-clause-ran : goal.returns-clause-ran
returns-clause-ran g c =
    runs_all _ _ _ _ _ _ _ _ _ _ _ c.loop-call.auto.call-index-end c.loop-call-test.false c.encodings_are_messages.ensures c.loop-call.invariant.goes_on
