use Rattle.dnsview_tool.proofs.Appended.{appended_more}
use Rattle.dnsview_tool.specs.Pages.{row_cells}
use Rattle.dnsview_tool.proofs.html.print_rows_cells.Goals as goal

pub loop-row-preserved : goal.loop-row-preserved
loop-row-preserved g c = appended_more (row_cells c.args.message.now c.args.line.now) c.args.rows.now c.loop-row.row-index _ _ _ _ c.loop-row-test.true
    c.loop-row.invariant c.in_ok-print_row_cells.ensures
