-- Each label increases the size.
use Rattle.std.proofs.Common.{◌-◌}
use Rattle.tests_plain.proofs.reading.+end_after.Given as goal

abbrev pub decreases-end_after : goal.decreases-end_after
decreases-end_after l = 255 - l.size
