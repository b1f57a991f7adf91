use Rattle.dns_name.specs.Unique.{encoded_name}
use Rattle.dns_name.proofs.laws.encoded_names.Goals as goal

pub returns : goal.returns
returns c = λ b p name x. encoded_name x
