use Rattle.fields_parameters.proofs.ValueLemmas.{nothing_is}
use Rattle.fields_parameters.proofs.parameter_value.is_nothing.Goals as goal

pub returns : goal.returns
returns c = nothing_is c.args.text.now c.unquoted.result.now c.is_empty.result c.unquoted.ensures c.is_empty.ensures
