use Rattle.dns_json.proofs.UniqueNames.{names_are_unique}
use Rattle.dns_json.proofs.laws.names_are_unique.Goals as goal

pub returns : goal.returns
returns c = names_are_unique
