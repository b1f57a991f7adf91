use Rattle.std.proofs.Common.{length}
use Rattle.fields_lines.proofs.problem.+relative_in_fields.Given as goal

abbrev pub decreases-relative_in_fields : goal.decreases-relative_in_fields
decreases-relative_in_fields l = length l.fields.now
