use Rattle.std.proofs.Common.{refl}
use Rattle.dns_lines.proofs.theory.AppendedTexts.{prints_both}
use Rattle.dnsview_tool.proofs.program.print_json_line.Goals as goal

pub returns : goal.returns
returns g c = prints_both _ _ _ _ _ _ c.write_all.result refl c.in_ok-print_json_object.ensures c.write_all.ensures.bytes
