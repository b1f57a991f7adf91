use Rattle.fields_values.proofs.MadeParts as made
use Rattle.fields_values.proofs.laws.values_are_made.Goals as goal

pub returns : goal.returns
returns c = made.values_are_made
