-- The remaining service parameters of an iterator.
use Rattle.std.specs.Prelude.{List}
use Rattle.fields_parameters.specs.ParameterItems.{ParameterItem, parameters_of}
use Rattle.fields_parameters.specs.declared.parameters.Parameter.{Parameter}
use Rattle.fields_parameters.specs.declared.parameters.Parameters.{Parameters}

abbrev pub parameter_item : Parameter → ParameterItem
parameter_item parameter = record { key = parameter.key; value = parameter.value.now }

abbrev pub parameters_left : Parameters → List ParameterItem
parameters_left parameters = parameters_of parameters.left.now
