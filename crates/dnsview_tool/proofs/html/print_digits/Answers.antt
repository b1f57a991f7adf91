use Rattle.dnsview_tool.specs.Digits.{octet_text}
use Rattle.dnsview_tool.proofs.Appended.{appended_more}
use Rattle.dnsview_tool.proofs.html.print_digits.Goals as goal

pub loop-octet-preserved : goal.loop-octet-preserved
loop-octet-preserved g c = appended_more octet_text c.args.octets.now c.loop-octet.octet-index 0 _ _ _ c.loop-octet-test.true c.loop-octet.invariant c.in_ok-print_octet.ensures
