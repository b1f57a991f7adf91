use Rattle.std.proofs.Common.{take}
use Rattle.dnsview_tool.specs.Joined.{line_of, line_row}
use Rattle.dnsview_tool.specs.Pages.{IsListRow}
use Rattle.dnsview_tool.specs.Printed.{PrintsEach}
use Rattle.dnsview_tool.proofs.html.print_list.Given as goal

abbrev pub invariant-loop-line : goal.invariant-loop-line
invariant-loop-line g l = PrintsEach (λ line. IsListRow l.fn.is_brief l.fn.message (line_row (line_of line))) (take l.line-index l.lines) (g.W.Write.contents l.fn.writer) (g.W.Write.contents l.writer)
