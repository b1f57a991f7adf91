-- Each label leaves fewer octets.
use Rattle.std.proofs.Common.{length}
use Rattle.tests_read.proofs.hostile.plain_data.+check_name.Given as goal

abbrev pub decreases-check_name : goal.decreases-check_name
decreases-check_name l = length l.octets.now
