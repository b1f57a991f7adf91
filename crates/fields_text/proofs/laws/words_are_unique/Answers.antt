use Rattle.fields_text.proofs.theory.LineLemmas.{one_list}
use Rattle.fields_text.proofs.laws.words_are_unique.Goals as goal

pub returns : goal.returns
returns c = one_list
