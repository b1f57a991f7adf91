use Rattle.fields_values.proofs.OneValues as one
use Rattle.fields_values.proofs.laws.values_are_one.Goals as goal

pub returns : goal.returns
returns c = one.values_are_one
