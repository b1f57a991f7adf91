use Rattle.fields_records.proofs.AllParts as all
use Rattle.fields_records.proofs.laws.fields_are_all.Goals as goal

pub returns : goal.returns
returns c = all.fields_are_all
