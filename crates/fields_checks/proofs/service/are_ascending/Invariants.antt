use Rattle.std.proofs.Common.{◌≡◌, length}
use Rattle.std.specs.Prelude.{map}
use Rattle.std.specs.Int.{from_be_bytes, w16}
use Rattle.fields_checks.specs.Services.{are_ascending}
use Rattle.fields_lists.specs.Groups.{groups}
use Rattle.fields_checks.proofs.service.are_ascending.Given as goal

abbrev pub invariant-keys : goal.invariant-keys
invariant-keys l =
    are_ascending l.before (map (from_be_bytes w16) (groups 2 l.left)) ≡ are_ascending 0 (map (from_be_bytes w16) (groups 2 l.fn.keys))

abbrev pub decreases-keys : goal.decreases-keys
decreases-keys l = length l.left
