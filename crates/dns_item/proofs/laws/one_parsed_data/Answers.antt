use Rattle.dns_item.proofs.theory.TypedLemmas.{data_is_parsed}
use Rattle.dns_item.proofs.laws.one_parsed_data.Goals as goal

pub returns : goal.returns
returns c = data_is_parsed
