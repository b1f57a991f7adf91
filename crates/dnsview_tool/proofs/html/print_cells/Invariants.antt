use Rattle.std.proofs.Common.{take}
use Rattle.std.specs.Io.KnownBytes.{Appends}
use Rattle.std.specs.List.{flat_map}
use Rattle.dnsview_tool.specs.Joined.{line_of}
use Rattle.dnsview_tool.specs.Pages.{line_cells}
use Rattle.dnsview_tool.proofs.html.print_cells.Given as goal

abbrev pub invariant-loop-line : goal.invariant-loop-line
invariant-loop-line g l = Appends (g.W.Write.contents l.fn.writer) (g.W.Write.contents l.writer) (flat_map (λ line. line_cells l.fn.message (line_of line)) (take l.line-index l.lines))
