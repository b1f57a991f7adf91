use Rattle.std.specs.Fmt.{WritesInCalls}
use Rattle.std.specs.Prelude.{replicate}
use Rattle.dns_dig.proofs.column.write_tabs.Given as goal

abbrev pub invariant-loop : goal.invariant-loop
invariant-loop g l = WritesInCalls g.T.TextWriter.takes l.fn.writer (replicate l.counter 9) l.writer
