use Rattle.dns_lines.proofs.theory.AppendedTexts.{appends_both}
use Rattle.dnsview_tool.proofs.Appended.{appends_same, printed_both, printed_same}
use Rattle.dnsview_tool.proofs.html.print_top.Goals as goal

pub returns : goal.returns
returns g c =
    printed_both _ _ _ _ _ c.write_all-3.result
    (appends_both _ _ _ _ _
    (appends_both _ _ _ _ _
    (appends_both _ _ _ _ _ (appends_same _ _ _ _ c.as_bytes.ensures.value c.in_ok-write_all.ensures.bytes) c.in_ok-print_escaped.ensures)
    (appends_same _ _ _ _ c.as_bytes-2.ensures.value c.in_ok-write_all-2.ensures.bytes))
    c.in_ok-print_escaped-2.ensures)
    (printed_same _ _ _ _ c.write_all-3.result c.as_bytes-3.ensures.value c.write_all-3.ensures.bytes)
