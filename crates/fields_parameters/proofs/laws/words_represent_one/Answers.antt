use Rattle.fields_parameters.proofs.theory.OneParameters.{one_parameters}
use Rattle.fields_parameters.proofs.laws.words_represent_one.Goals as goal

pub returns : goal.returns
returns c = one_parameters
