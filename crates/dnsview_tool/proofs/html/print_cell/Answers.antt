use Rattle.dns_lines.proofs.theory.AppendedTexts.{appends_both}
use Rattle.dnsview_tool.proofs.Appended.{printed_both}
use Rattle.dnsview_tool.proofs.html.print_cell.Goals as goal

pub returns : goal.returns
returns g c = printed_both _ _ _ _ _ c.print_cell_end.result (appends_both _ _ _ _ _ c.in_ok-print_cell_start.ensures c.in_ok-print_octet.ensures) c.print_cell_end.ensures
