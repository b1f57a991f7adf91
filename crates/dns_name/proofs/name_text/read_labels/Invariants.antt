use Rattle.std.proofs.Common.{length}
use Rattle.dns_name.proofs.NameTextReading.{InLabels}
use Rattle.dns_name.proofs.name_text.read_labels.Given as goal

abbrev pub invariant-labels : goal.invariant-labels
invariant-labels l = InLabels l.text l.octets.items l.left

abbrev pub decreases-labels : goal.decreases-labels
decreases-labels l = length l.left
