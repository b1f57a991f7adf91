use Rattle.std.proofs.Common.{take}
use Rattle.std.specs.Io.KnownBytes.{Appends}
use Rattle.std.specs.List.{flat_map}
use Rattle.dnsview_tool.specs.Pages.{row_cells}
use Rattle.dnsview_tool.proofs.html.print_rows_cells.Given as goal

abbrev pub invariant-loop-row : goal.invariant-loop-row
invariant-loop-row g l = Appends (g.W.Write.contents l.fn.writer) (g.W.Write.contents l.writer) (flat_map (row_cells l.fn.message l.fn.line) (take l.row-index l.rows))
