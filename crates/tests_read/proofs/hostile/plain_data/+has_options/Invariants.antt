-- The options after the first have fewer octets.
use Rattle.std.proofs.Common.{length}
use Rattle.tests_read.proofs.hostile.plain_data.+has_options.Given as goal

abbrev pub decreases-has_options : goal.decreases-has_options
decreases-has_options l = length l.octets.now
