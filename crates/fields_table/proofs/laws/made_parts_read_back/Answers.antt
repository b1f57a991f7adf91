use Rattle.fields_table.proofs.MadeData as back
use Rattle.fields_table.proofs.laws.made_parts_read_back.Goals as goal

pub returns : goal.returns
returns c = back.made_parts_read_back
