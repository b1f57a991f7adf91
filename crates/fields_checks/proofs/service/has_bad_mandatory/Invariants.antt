use Rattle.std.proofs.Common.{◌≡◌}
use Rattle.fields_checks.specs.Services.{has_bad_mandatory}
use Rattle.fields_parameters.specs.ItemsLeft.{parameters_left}
use Rattle.fields_parameters.specs.ParameterItems.{parameters_of}
use Rattle.fields_checks.proofs.service.has_bad_mandatory.Given as goal

abbrev pub invariant-loop-parameter : goal.invariant-loop-parameter
invariant-loop-parameter l = record {
  can : goal.iterator-loop-parameter.can_next l.parameter-iterator;
  finite : goal.iterator-loop-parameter.is_finite l.parameter-iterator;
  same : has_bad_mandatory (parameters_left l.parameter-iterator) ≡ has_bad_mandatory (parameters_of l.fn.parameters);
}
