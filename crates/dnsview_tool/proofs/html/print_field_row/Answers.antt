use Rattle.std.proofs.Common.{ap}
use Rattle.dnsview_tool.specs.Pages.{digits}
use Rattle.dns_lines.proofs.theory.AppendedTexts.{appends_both}
use Rattle.dnsview_tool.proofs.Appended.{appends_same, printed_both}
use Rattle.dnsview_tool.proofs.html.print_field_row.Goals as goal

pub returns : goal.returns
returns g c =
    printed_both _ _ _ _ _ c.write_all-2.result
    (appends_both _ _ _ _ _
    (appends_both _ _ _ _ _
    (appends_both _ _ _ _ _ c.in_ok-print_field_link.ensures (appends_same _ _ _ _ (ap digits c.octets_of.ensures) c.in_ok-print_digits.ensures))
    c.in_ok-write_all.ensures.bytes)
    c.in_ok-print_words.ensures)
    c.write_all-2.ensures.bytes
