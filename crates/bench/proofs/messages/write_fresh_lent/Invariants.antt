use Rattle.bench.specs.Message.{HandsOut}
use Rattle.bench.proofs.messages.write_fresh_lent.Given as goal

abbrev pub invariant-loop : goal.invariant-loop
invariant-loop g l = HandsOut l.fn.out l.out l.len
