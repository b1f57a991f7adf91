use Rattle.std.proofs.Common.{take}
use Rattle.std.specs.Io.KnownBytes.{Appends}
use Rattle.dnsview_tool.specs.Texts.{digits_text}
use Rattle.dnsview_tool.proofs.text.print_digits.Given as goal

abbrev pub invariant-loop-octet : goal.invariant-loop-octet
invariant-loop-octet g l = Appends (g.W.Write.contents l.fn.writer) (g.W.Write.contents l.writer) (digits_text (take l.octet-index l.octets))
