use Rattle.std.proofs.Common.{◌≡◌, length}
use Rattle.fields_forms.specs.PlainNames.{names_after}
use Rattle.fields_forms.proofs.plain_names.are_plain_names.Given as goal

abbrev pub invariant-names : goal.invariant-names
invariant-names l = names_after 0 l.octets ≡ names_after 0 l.left

abbrev pub decreases-names : goal.decreases-names
decreases-names l = length l.left
