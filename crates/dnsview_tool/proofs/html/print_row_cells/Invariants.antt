use Rattle.std.proofs.Common.{take}
use Rattle.std.specs.Io.KnownBytes.{Appends}
use Rattle.dnsview_tool.specs.Pages.{octet_cells}
use Rattle.dnsview_tool.proofs.html.print_row_cells.Given as goal

abbrev pub invariant-loop-index : goal.invariant-loop-index
invariant-loop-index g l = Appends (g.W.Write.contents l.fn.writer) (g.W.Write.contents l.writer) (octet_cells l.fn.message l.fn.line l.fn.row (take l.index l.octets))
