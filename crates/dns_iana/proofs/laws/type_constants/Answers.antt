use Rattle.std.proofs.Common.{refl}
use Rattle.dns_iana.specs.Registry.{registered_types}
use Rattle.dns_iana.proofs.laws.type_constants.Goals as goal

pub returns : goal.returns
unfolding registered_types
returns c = refl
