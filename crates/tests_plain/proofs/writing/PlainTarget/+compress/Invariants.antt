-- Each label leaves fewer octets.
use Rattle.std.proofs.Common.{length}
use Rattle.tests_plain.proofs.writing.PlainTarget.+compress.Given as goal

abbrev pub decreases-compress : goal.decreases-compress
decreases-compress l = length l.name.now
