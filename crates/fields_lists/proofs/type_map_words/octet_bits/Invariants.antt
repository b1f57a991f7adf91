use Rattle.std.proofs.Common.{◌≡◌, ◌≤◌, ◌+◌, ◌-◌}
use Rattle.fields_lists.specs.TypeBits.{is_marked, octet_bits}
use Rattle.fields_lists.proofs.type_map_words.octet_bits.Given as goal

abbrev pub invariant-loop-left : goal.invariant-loop-left
invariant-loop-left l = (l.left ≤ 8) × (l.octet ≡ octet_bits (is_marked l.marks) (l.at + l.left) (8 - l.left))

abbrev pub decreases-loop-left : goal.decreases-loop-left
decreases-loop-left l = l.left
