use Rattle.dns_code.proofs.TokensLemmas.{flags_texts}
use Rattle.dns_code.proofs.laws.texts_of_flags.Goals as goal

pub returns-clause-texts : goal.returns-clause-texts
returns-clause-texts c = flags_texts
