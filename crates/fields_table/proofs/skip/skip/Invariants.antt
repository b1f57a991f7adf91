use Rattle.std.proofs.Common.{length}
use Rattle.fields_table.proofs.SkipSteps.{Reached}
use Rattle.fields_table.proofs.skip.skip.Given as goal

abbrev pub invariant-fields : goal.invariant-fields
invariant-fields l = Reached l.fields l.parser l.left l.ahead l.size

abbrev pub decreases-fields : goal.decreases-fields
decreases-fields l = length l.left
