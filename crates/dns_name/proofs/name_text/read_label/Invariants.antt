use Rattle.std.proofs.Common.{length}
use Rattle.dns_name.proofs.NameTextReading.{InLabel}
use Rattle.dns_name.proofs.name_text.read_label.Given as goal

abbrev pub invariant-octets : goal.invariant-octets
invariant-octets l = InLabel l.text l.size l.label.items l.left

abbrev pub decreases-octets : goal.decreases-octets
decreases-octets l = length l.left
