use Rattle.fields_values.proofs.GivenLemmas.{read_values_are_taken}
use Rattle.fields_values.proofs.laws.read_values_are_taken.Goals as goal

pub returns : goal.returns
returns c = read_values_are_taken
