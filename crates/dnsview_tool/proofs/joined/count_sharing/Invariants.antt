use Rattle.std.proofs.Common.{◌≡◌, ◌+◌, drop}
use Rattle.dnsview_tool.proofs.PageLines.{sharing}
use Rattle.dnsview_tool.proofs.joined.count_sharing.Given as goal

abbrev pub invariant-loop-index : goal.invariant-loop-index
invariant-loop-index l = l.index + sharing l.is_brief l.last (drop l.index l.others) ≡ sharing l.fn.is_brief l.fn.first l.fn.others
