use Rattle.std.proofs.Common.{◌≡◌, ◌++◌, length, map}
use Rattle.dnsview_tool.specs.Joined.{line_of, lines}
use Rattle.dnsview_tool.proofs.joined.lines.Given as goal

abbrev pub invariant-lines : goal.invariant-lines
invariant-lines l = map line_of l.lines.items ++ lines l.is_brief l.left ≡ lines l.fn.is_brief l.fn.rows

abbrev pub decreases-lines : goal.decreases-lines
decreases-lines l = length l.left
