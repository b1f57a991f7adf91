use Rattle.std.proofs.Common.{drop}
use Rattle.fields_values.specs.NewValues.{ArePrefixesIn}
use Rattle.fields_values.proofs.ListSteps.{IsBetween}
use Rattle.fields_values.proofs.lists.push_prefixes.Given as goal

abbrev pub invariant-loop-prefix : goal.invariant-loop-prefix
invariant-loop-prefix l = IsBetween (ArePrefixesIn l.prefixes) (ArePrefixesIn (drop l.prefix-index l.prefixes)) l.fn.octets.items l.octets.items
