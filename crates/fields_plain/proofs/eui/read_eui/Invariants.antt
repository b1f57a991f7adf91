use Rattle.std.proofs.Common.{◌-◌, length}
use Rattle.fields_plain.proofs.EuiLemmas.{IsRead}
use Rattle.fields_plain.proofs.eui.read_eui.Given as goal

abbrev pub invariant-pairs : goal.invariant-pairs
invariant-pairs l = IsRead l.size l.fn.word l.octets.items l.left

abbrev pub decreases-pairs : goal.decreases-pairs
decreases-pairs l = l.size - length l.octets.items
