-- Each entry leaves one fewer.
use Rattle.tests_plain.proofs.reading.+entries.Given as goal

abbrev pub decreases-entries : goal.decreases-entries
decreases-entries l = l.count
