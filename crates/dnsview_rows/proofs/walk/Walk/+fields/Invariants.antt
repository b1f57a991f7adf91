use Rattle.std.proofs.Common.{length}
use Rattle.dnsview_rows.proofs.walk.Walk.+fields.Given as goal

abbrev pub decreases-fields : goal.decreases-fields
decreases-fields l = length l.fields.now
