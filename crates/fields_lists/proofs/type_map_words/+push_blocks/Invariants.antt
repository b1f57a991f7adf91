use Rattle.std.proofs.Common.{◌-◌}
use Rattle.fields_lists.proofs.type_map_words.+push_blocks.Given as goal

abbrev pub decreases-push_blocks : goal.decreases-push_blocks
decreases-push_blocks l = l.end - l.window
