use Rattle.dnsview_tool.specs.Texts.{IsRowText}
use Rattle.dnsview_tool.proofs.Appended.{more_printed}
use Rattle.dnsview_tool.proofs.text.print_text.Goals as goal

pub loop-row-preserved : goal.loop-row-preserved
loop-row-preserved g c = more_printed (IsRowText c.args.message.now) c.args.rows.now c.loop-row.row-index _ _ _ _ c.loop-row-test.true c.loop-row.invariant c.in_ok-print_row.ensures
