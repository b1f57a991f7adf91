use Rattle.std.proofs.Common.{length}
use Rattle.tests_message.proofs.memory.calls.+make_each.Given as goal

abbrev pub decreases-make_each : goal.decreases-make_each
decreases-make_each g l = length l.lengths.now
