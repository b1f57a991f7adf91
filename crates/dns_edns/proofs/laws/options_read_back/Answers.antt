use Rattle.dns_edns.specs.Options.{encode_options}
use Rattle.dns_edns.proofs.theory.OptionsLemmas.{options_of-is, options_encoded}
use Rattle.dns_edns.proofs.laws.options_read_back.Goals as goal

pub returns : goal.returns
returns c = λ xs each. options_of-is (encode_options xs) xs (options_encoded xs each)
