use Rattle.dnsview_tool.proofs.Appended.{printed_same}
use Rattle.dnsview_tool.proofs.PageTexts.{arrow_pieces}
use Rattle.dnsview_tool.proofs.html.print_arrow.Goals as goal

pub returns : goal.returns
returns g c = printed_same _ _ _ _ c.write.result (arrow_pieces c.args.from c.args.target) c.write.ensures.bytes
