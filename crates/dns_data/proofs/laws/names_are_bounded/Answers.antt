use Rattle.dns_data.proofs.ComposedParts as composed
use Rattle.dns_data.proofs.laws.names_are_bounded.Goals as goal

pub returns : goal.returns
returns c = composed.names_are_bounded
