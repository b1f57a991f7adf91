use Rattle.std.proofs.Common.{◌≡◌, length}
use Rattle.fields_lists.specs.TypeMaps.{blocks_after}
use Rattle.fields_lists.proofs.type_map.is_type_map.Given as goal

abbrev pub invariant-windows : goal.invariant-windows
invariant-windows l = blocks_after 0 0 l.octets ≡ blocks_after l.least 0 l.left

abbrev pub decreases-windows : goal.decreases-windows
decreases-windows l = length l.left
