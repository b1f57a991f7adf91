use Rattle.std.proofs.Common.{take}
use Rattle.std.specs.Io.KnownBytes.{Appends}
use Rattle.dnsview_tool.specs.Pages.{digits}
use Rattle.dnsview_tool.proofs.html.print_digits.Given as goal

abbrev pub invariant-loop-octet : goal.invariant-loop-octet
invariant-loop-octet g l = Appends (g.W.Write.contents l.fn.writer) (g.W.Write.contents l.writer) (digits (take l.octet-index l.octets))
