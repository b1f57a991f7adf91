use Rattle.std.proofs.Common.{length}
use Rattle.tests_wire.proofs.CutAway.{GoesOn}
use Rattle.tests_wire.proofs.callers.append_and_cut.Given as goal

abbrev pub invariant-loop-name : goal.invariant-loop-name
invariant-loop-name g l =
    GoesOn (length (g.T.Composer.written l.fn.target).octets) (g.T.Composer.written l.fn.target) (g.T.Composer.written l.target)
