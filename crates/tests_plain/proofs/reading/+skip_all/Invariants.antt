-- Each entry leaves one fewer.
use Rattle.tests_plain.proofs.reading.+skip_all.Given as goal

abbrev pub decreases-skip_all : goal.decreases-skip_all
decreases-skip_all l = l.count
