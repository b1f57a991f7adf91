use Rattle.dnsview_tool.specs.Joined.{line_of, line_row}
use Rattle.dnsview_tool.specs.Pages.{IsListRow}
use Rattle.dnsview_tool.specs.declared.joined.Line.{Line}
use Rattle.dnsview_tool.proofs.Appended.{more_printed}
use Rattle.dnsview_tool.proofs.html.print_list.Goals as goal

pub loop-line-preserved : goal.loop-line-preserved
loop-line-preserved g c = more_printed (λ (line : Line). IsListRow c.args.is_brief c.args.message.now (line_row (line_of line))) c.args.lines.now
    c.loop-line.line-index _ _ _ _ c.loop-line-test.true c.loop-line.invariant c.in_ok-print_list_row.ensures
