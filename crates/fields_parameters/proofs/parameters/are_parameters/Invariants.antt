use Rattle.std.proofs.Common.{◌≡◌, length}
use Rattle.fields_parameters.specs.Parameters.{parameters_after}
use Rattle.fields_parameters.proofs.parameters.are_parameters.Given as goal

abbrev pub invariant-parameters : goal.invariant-parameters
invariant-parameters l = parameters_after 0 0 l.octets ≡ parameters_after l.least 0 l.left

abbrev pub decreases-parameters : goal.decreases-parameters
decreases-parameters l = length l.left
