use Rattle.std.proofs.Common.{◌≡◌, length}
use Rattle.fields_lists.specs.Strings.{strings_after}
use Rattle.fields_lists.proofs.strings.are_strings.Given as goal

abbrev pub invariant-strings : goal.invariant-strings
invariant-strings l = strings_after 0 l.octets ≡ strings_after 0 l.left

abbrev pub decreases-strings : goal.decreases-strings
decreases-strings l = length l.left
