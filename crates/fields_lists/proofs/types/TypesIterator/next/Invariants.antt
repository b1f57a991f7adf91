use Rattle.std.proofs.Common.{◌≡◌}
use Rattle.fields_lists.specs.TypeItems.{steps_left, types_left}
use Rattle.fields_lists.proofs.types.TypesIterator.next.Given as goal

abbrev pub invariant-bits : goal.invariant-bits
invariant-bits l = types_left l.self ≡ types_left l.fn.self

abbrev pub decreases-bits : goal.decreases-bits
decreases-bits l = steps_left l.self
