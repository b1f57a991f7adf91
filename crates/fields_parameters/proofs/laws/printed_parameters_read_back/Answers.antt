use Rattle.fields_parameters.proofs.ParameterLaws.{parameters_read_back}
use Rattle.fields_parameters.proofs.laws.printed_parameters_read_back.Goals as goal

pub returns : goal.returns
returns c = parameters_read_back c.printed_values_read_back.ensures.base64
