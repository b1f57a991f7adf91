use Rattle.std.proofs.Common.{◌≡◌, take}
use Rattle.fields_values.proofs.lists.push_types.Given as goal

abbrev pub invariant-loop-rtype : goal.invariant-loop-rtype
invariant-loop-rtype l = l.numbers.items ≡ take l.rtype-index l.types
