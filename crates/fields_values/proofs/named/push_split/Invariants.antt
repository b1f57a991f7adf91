use Rattle.std.proofs.Common.{length}
use Rattle.fields_values.proofs.SplitLemmas.{ContinuesSplit}
use Rattle.fields_values.proofs.named.push_split.Given as goal

abbrev pub invariant-loop-left : goal.invariant-loop-left
invariant-loop-left l = ContinuesSplit l.fn.text l.strings.items l.left

abbrev pub decreases-loop-left : goal.decreases-loop-left
decreases-loop-left l = length l.left
