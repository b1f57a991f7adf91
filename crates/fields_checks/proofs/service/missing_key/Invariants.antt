use Rattle.std.proofs.Common.{◌≡◌}
use Rattle.std.specs.Prelude.{find, not}
use Rattle.std.specs.List.{flat_map}
use Rattle.fields_checks.specs.Services.{has_key, listed_keys, missing_key}
use Rattle.fields_parameters.specs.ItemsLeft.{parameters_left}
use Rattle.fields_parameters.specs.ParameterItems.{parameters_of}
use Rattle.fields_checks.proofs.service.missing_key.Given as goal

abbrev pub invariant-loop-parameter : goal.invariant-loop-parameter
invariant-loop-parameter l = record {
  can : goal.iterator-loop-parameter.can_next l.parameter-iterator;
  finite : goal.iterator-loop-parameter.is_finite l.parameter-iterator;
  same : find (λ key. not (has_key (parameters_of l.fn.parameters) key)) (flat_map listed_keys (parameters_left l.parameter-iterator))
      ≡ missing_key (parameters_of l.fn.parameters);
}
