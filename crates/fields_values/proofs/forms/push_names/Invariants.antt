use Rattle.std.proofs.Common.{◌≡◌, ◌++◌, length}
use Rattle.fields_values.specs.NewForms.{names_octets}
use Rattle.fields_values.proofs.forms.push_names.Given as goal

-- what is appended and the octets of the names that are left are those of all names
abbrev pub invariant-names : goal.invariant-names
invariant-names l = l.octets.items ++ names_octets l.left ≡ l.fn.octets.items ++ names_octets l.names

abbrev pub decreases-names : goal.decreases-names
decreases-names l = length l.left
