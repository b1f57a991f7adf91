use Rattle.dnsview_tool.proofs.Appended.{appended_more}
use Rattle.dnsview_tool.specs.Pages.{escaped_octet}
use Rattle.dnsview_tool.proofs.html.print_escaped.Goals as goal

pub loop-octet-preserved : goal.loop-octet-preserved
loop-octet-preserved g c = appended_more escaped_octet c.args.text.now c.loop-octet.octet-index _ _ _ _ c.loop-octet-test.true c.loop-octet.invariant c.in_ok-print_escaped_octet.ensures
