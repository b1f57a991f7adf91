use Rattle.dnsview_tool.specs.Joined.{line_of, line_row}
use Rattle.dnsview_tool.proofs.PageTexts.{list_row_printed}
use Rattle.dnsview_tool.proofs.Printables.{printable_same}
use Rattle.dnsview_tool.proofs.html.print_list_row.Goals as goal

pub returns : goal.returns
returns g c =
    list_row_printed c.print_row.result _ _ _ c.args.is_brief c.args.message.now (line_row (line_of c.args.line.now)) c.row-row.result c.as_slice.result.now
    c.row-row.ensures (printable_same _ _ c.as_slice.ensures.value c.in_ok-words.ensures) c.in_ok-print_part_start.ensures
    c.print_row.ensures
