use Rattle.std.proofs.Common.{◌≡◌, true}
use Rattle.dnsview_tool.specs.Printable.{are_printable}
use Rattle.dnsview_tool.proofs.words.words_after.Given as goal

abbrev pub invariant-loop-row : goal.invariant-loop-row
invariant-loop-row l = are_printable l.words.items ≡ true
