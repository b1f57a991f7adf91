use Rattle.dns_transfer.proofs.OwnerLemmas.{is_within-Decides}
use Rattle.dns_transfer.proofs.SerialLemmas.{is_greater-Decides}
use Rattle.dns_transfer.proofs.laws.tests_are_relations.Goals as goal

pub returns : goal.returns
returns c = record { serials = is_greater-Decides; owners = is_within-Decides }
