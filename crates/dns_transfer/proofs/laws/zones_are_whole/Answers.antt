use Rattle.dns_transfer.proofs.FormShapes.{zones_are_whole}
use Rattle.dns_transfer.proofs.laws.zones_are_whole.Goals as goal

pub returns : goal.returns
returns c = zones_are_whole
