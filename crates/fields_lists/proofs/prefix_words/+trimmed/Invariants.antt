use Rattle.std.proofs.Common.{length}
use Rattle.fields_lists.proofs.prefix_words.+trimmed.Given as goal

abbrev pub decreases-trimmed : goal.decreases-trimmed
decreases-trimmed l = length l.octets.now
