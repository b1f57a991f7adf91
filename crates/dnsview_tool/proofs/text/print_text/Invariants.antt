use Rattle.std.proofs.Common.{take}
use Rattle.dnsview_tool.specs.Printed.{PrintsEach}
use Rattle.dnsview_tool.specs.Texts.{IsRowText}
use Rattle.dnsview_tool.proofs.text.print_text.Given as goal

abbrev pub invariant-loop-row : goal.invariant-loop-row
invariant-loop-row g l = PrintsEach (IsRowText l.fn.message) (take l.row-index l.rows) (g.W.Write.contents l.fn.writer) (g.W.Write.contents l.writer)
