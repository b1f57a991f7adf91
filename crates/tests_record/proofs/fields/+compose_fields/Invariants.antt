use Rattle.std.proofs.Common.{length}
use Rattle.tests_record.proofs.fields.+compose_fields.Given as goal

abbrev pub decreases-compose_fields : goal.decreases-compose_fields
decreases-compose_fields g l = length l.after.now
