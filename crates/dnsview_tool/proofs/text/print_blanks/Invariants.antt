use Rattle.std.proofs.Common.{◌-◌, ◌*◌}
use Rattle.std.specs.Io.KnownBytes.{Appends}
use Rattle.dnsview_tool.specs.Texts.{spaces}
use Rattle.dnsview_tool.proofs.text.print_blanks.Given as goal

abbrev pub invariant-loop : goal.invariant-loop
invariant-loop g l = Appends (g.W.Write.contents l.fn.writer) (g.W.Write.contents l.writer) (spaces (3 * (l.counter - l.count)))
