use Rattle.std.proofs.Common.{length}
use Rattle.fields_lines.proofs.field_words.+complete_fields.Given as goal

abbrev pub decreases-complete_fields : goal.decreases-complete_fields
decreases-complete_fields l = length l.fields.now
