use Rattle.fields_values.proofs.ReadBackLemmas.{value_read}
use Rattle.fields_values.proofs.laws.values_read_back.Goals as goal

pub returns : goal.returns
returns c = value_read
