use Rattle.std.proofs.Common.{drop}
use Rattle.fields_values.specs.NewValues.{AreParametersIn}
use Rattle.fields_values.proofs.ListSteps.{IsBetween}
use Rattle.fields_values.proofs.lists.push_parameters.Given as goal

abbrev pub invariant-loop-parameter : goal.invariant-loop-parameter
invariant-loop-parameter l = IsBetween (AreParametersIn 0 l.parameters) (AreParametersIn l.least (drop l.parameter-index l.parameters)) l.fn.octets.items l.octets.items
