use Rattle.std.proofs.Common.{◌≡◌, length}
use Rattle.std.specs.Prelude.{find, map, not}
use Rattle.std.specs.Int.{from_be_bytes, w16}
use Rattle.fields_checks.specs.Services.{has_key}
use Rattle.fields_lists.specs.Groups.{groups}
use Rattle.fields_parameters.specs.ParameterItems.{parameters_of}
use Rattle.fields_checks.proofs.service.missing_of.Given as goal

abbrev pub invariant-keys : goal.invariant-keys
invariant-keys l =
    find (λ key. not (has_key (parameters_of l.fn.parameters) key)) (map (from_be_bytes w16) (groups 2 l.left))
    ≡ find (λ key. not (has_key (parameters_of l.fn.parameters) key)) (map (from_be_bytes w16) (groups 2 l.fn.keys))

abbrev pub decreases-keys : goal.decreases-keys
decreases-keys l = length l.left
