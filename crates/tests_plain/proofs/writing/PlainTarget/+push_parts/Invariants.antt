-- Each part leaves one fewer.
use Rattle.std.proofs.Common.{length}
use Rattle.tests_plain.proofs.writing.PlainTarget.+push_parts.Given as goal

abbrev pub decreases-push_parts : goal.decreases-push_parts
decreases-push_parts l = length l.parts.now
