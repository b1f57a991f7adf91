use Rattle.std.proofs.Common.{sym}
use Rattle.dnsview_tool.proofs.PageLines.{last_is}
use Rattle.dnsview_tool.proofs.joined.last_end.Goals as goal

pub returns-in-Some : goal.returns-in-Some
returns-in-Some c = sym (last_is c.args.first.now c.args.others.now c.in-Some.last.now (sym c.in-Some.ensures.value))
