use Rattle.std.proofs.Common.{◌∙◌}
use Rattle.dns_lines.proofs.theory.AppendedTexts.{prints_both}
use Rattle.dnsmsg_tool.proofs.output.print_octets.Goals as goal

pub returns : goal.returns
returns g c = prints_both _ _ _ _ _ _ _ (c.as_bytes.ensures.value ∙ c.in_ok-digits.ensures) c.in_ok-write_all.ensures.bytes c.write_all-2.ensures.bytes
