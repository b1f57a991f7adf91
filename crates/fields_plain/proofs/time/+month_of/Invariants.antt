use Rattle.std.proofs.Common.{length}
use Rattle.fields_plain.proofs.time.+month_of.Given as goal

abbrev pub decreases-month_of : goal.decreases-month_of
decreases-month_of l = length l.sizes.now
