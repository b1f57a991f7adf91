-- Each item leaves one fewer.
use Rattle.std.proofs.Common.{length}
use Rattle.tests_plain.proofs.writing.PlainTarget.+push_items.Given as goal

abbrev pub decreases-push_items : goal.decreases-push_items
decreases-push_items l = length l.items.now
