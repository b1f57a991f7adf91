use Rattle.dnsview_tool.proofs.Appended.{appended_more}
use Rattle.dnsview_tool.specs.Joined.{line_of}
use Rattle.dnsview_tool.specs.Pages.{line_cells}
use Rattle.dnsview_tool.specs.declared.joined.Line.{Line}
use Rattle.dnsview_tool.proofs.html.print_cells.Goals as goal

pub loop-line-preserved : goal.loop-line-preserved
loop-line-preserved g c = appended_more (λ (line : Line). line_cells c.args.message.now (line_of line)) c.args.lines.now c.loop-line.line-index _ _ _ _
    c.loop-line-test.true c.loop-line.invariant c.in_ok-print_line_cells.ensures
