use Rattle.std.proofs.Common.{length}
use Rattle.fields_lists.proofs.type_map.+write_octets.Given as goal

abbrev pub decreases-write_octets : goal.decreases-write_octets
decreases-write_octets g l = length l.octets.now
