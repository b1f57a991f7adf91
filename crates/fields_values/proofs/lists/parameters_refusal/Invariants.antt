use Rattle.std.proofs.Common.{drop}
use Rattle.fields_values.specs.NewValues.{AreParametersIn}
use Rattle.fields_values.proofs.ListSteps.{AreSame}
use Rattle.fields_values.proofs.lists.parameters_refusal.Given as goal

abbrev pub invariant-loop-parameter : goal.invariant-loop-parameter
invariant-loop-parameter l = AreSame (AreParametersIn 0 l.parameters) (AreParametersIn l.least (drop l.parameter-index l.parameters))
