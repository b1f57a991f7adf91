use Rattle.std.proofs.Common.{refl}
use Rattle.dns_lines.proofs.theory.PrintedLines.{printed_as}
use Rattle.dnsview_tool.proofs.program.print_dig.Goals as goal

pub returns : goal.returns
returns g c = printed_as _ _ _ _ c.write.result refl c.write.ensures.bytes
