-- When service parameters are equal: by their numbers and octets, wherever the octets are.
use Rattle.std.specs.Prelude.{Bool, ◌==◌}
use Rattle.std.specs.Ordering.{on, eq_of_both}
use Rattle.fields_parameters.specs.declared.parameters.Parameter.{Parameter}
use Rattle.fields_lists.specs.ItemEquality.{octets_equal}

-- service parameters: by key and value. RFC 9460 section 2.2.
abbrev pub parameters_equal : Parameter → Parameter → Bool
parameters_equal = eq_of_both (on (λ parameter. parameter.key) ◌==◌) (on (λ parameter. parameter.value.now) octets_equal)
