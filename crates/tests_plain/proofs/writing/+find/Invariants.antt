-- Each entry leaves one fewer.
use Rattle.std.proofs.Common.{length}
use Rattle.tests_plain.proofs.writing.+find.Given as goal

abbrev pub decreases-find : goal.decreases-find
decreases-find l = length l.table.now
