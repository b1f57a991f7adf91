use Rattle.std.proofs.Common.{drop}
use Rattle.fields_values.specs.NewValues.{ArePrefixesIn}
use Rattle.fields_values.proofs.ListSteps.{AreSame}
use Rattle.fields_values.proofs.lists.prefixes_refusal.Given as goal

abbrev pub invariant-loop-prefix : goal.invariant-loop-prefix
invariant-loop-prefix l = AreSame (ArePrefixesIn l.prefixes) (ArePrefixesIn (drop l.prefix-index l.prefixes))
