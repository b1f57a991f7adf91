use Rattle.std.proofs.Common.{◌≡◌, ◌++◌, take, drop}
use Rattle.dnsview_tool.specs.Pages.{front_within}
use Rattle.dnsview_tool.proofs.brief.front_within.Given as goal

abbrev pub invariant-loop-index : goal.invariant-loop-index
invariant-loop-index l = take l.index l.text ++ front_within l.room (drop l.index l.text) ≡ front_within l.fn.limit l.fn.text
