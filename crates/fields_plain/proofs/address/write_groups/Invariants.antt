use Rattle.std.proofs.Common.{◌∷◌, get_or, take}
use Rattle.std.specs.Fmt.{WritesInCalls}
use Rattle.std.specs.Net.Text.{groups_text}
use Rattle.fields_plain.proofs.address.write_groups.Given as goal

abbrev pub invariant-loop-segment : goal.invariant-loop-segment
invariant-loop-segment g l =
    WritesInCalls g.W.TextWriter.takes l.fn.f (groups_text (get_or l.segments 0 0 ∷ take l.segment-index l.after)) l.f
