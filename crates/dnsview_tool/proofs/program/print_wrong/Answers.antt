use Rattle.dnsview_tool.proofs.Appended.{printed_both, printed_same}
use Rattle.dnsview_tool.proofs.program.print_wrong.Goals as goal

pub returns : goal.returns
returns g c =
    printed_both _ _ _ _ _ c.write_all.result c.in_ok-print_wrong_word.ensures
    (printed_same _ _ _ _ c.write_all.result c.as_bytes.ensures.value c.write_all.ensures.bytes)
