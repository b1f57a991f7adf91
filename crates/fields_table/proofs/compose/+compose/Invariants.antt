use Rattle.std.proofs.Common.{length}
use Rattle.fields_table.proofs.compose.+compose.Given as goal

abbrev pub decreases-compose : goal.decreases-compose
decreases-compose g l = length l.fields.now
