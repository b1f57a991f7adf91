use Rattle.dns_wire.proofs.theory.NameSizes as sizes
use Rattle.dns_wire.proofs.target_laws.names_are_short.Goals as goal

pub returns : goal.returns
returns c = sizes.names_are_short
