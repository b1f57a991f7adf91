use Rattle.dns_edns.proofs.theory.OptionsLemmas.{options_of-is, options_of-holds}
use Rattle.dns_edns.proofs.laws.options_are_one.Goals as goal

pub returns : goal.returns
returns c = λ b xs. (options_of-holds b xs, options_of-is b xs)
