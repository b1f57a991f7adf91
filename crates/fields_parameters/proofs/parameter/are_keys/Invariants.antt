use Rattle.std.proofs.Common.{◌≡◌, length}
use Rattle.fields_parameters.specs.Parameters.{are_keys_above}
use Rattle.fields_parameters.proofs.parameter.are_keys.Given as goal

abbrev pub invariant-keys : goal.invariant-keys
invariant-keys l = are_keys_above 0 l.value ≡ are_keys_above l.least l.left

abbrev pub decreases-keys : goal.decreases-keys
decreases-keys l = length l.left
