use Rattle.std.proofs.Common.{◌≡◌, ◌+◌, length, true}
use Rattle.dnsview_tool.specs.Printable.{are_printable}
use Rattle.dnsview_tool.proofs.TextLines.{Underway}
use Rattle.dnsview_tool.proofs.text.print_lines.Given as goal

abbrev pub invariant-loop-octets_left : goal.invariant-loop-octets_left
invariant-loop-octets_left g l =
    (Underway l.fn.start l.fn.octets l.octets_left (g.W.Write.contents l.fn.writer) (g.W.Write.contents l.writer)) × (are_printable l.words_left ≡ true)

abbrev pub decreases-loop-octets_left : goal.decreases-loop-octets_left
decreases-loop-octets_left g l = length l.octets_left + length l.words_left
