use Rattle.std.specs.Fmt.{WritesInCalls}
use Rattle.json_print.proofs.Escapes.{content_of}
use Rattle.json_print.proofs.escaped.write_each.Given as goal

abbrev pub invariant-loop-c : goal.invariant-loop-c
invariant-loop-c g l = WritesInCalls g.T.TextWriter.takes l.fn.writer (content_of l.yielded) l.writer
