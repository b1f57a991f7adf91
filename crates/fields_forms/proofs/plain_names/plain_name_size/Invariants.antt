use Rattle.std.proofs.Common.{◌≡◌, ◌+◌, ◌≤◌, length}
use Rattle.fields_forms.specs.PlainNames.{name_size_after}
use Rattle.fields_forms.proofs.plain_names.plain_name_size.Given as goal

abbrev pub invariant-labels : goal.invariant-labels
invariant-labels l = (name_size_after 0 0 l.octets ≡ name_size_after l.size 0 l.left) × (l.size ≤ 254) × (l.size + length l.left ≡ length l.octets)

abbrev pub decreases-labels : goal.decreases-labels
decreases-labels l = length l.left
