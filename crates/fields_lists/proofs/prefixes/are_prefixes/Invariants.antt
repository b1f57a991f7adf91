use Rattle.std.proofs.Common.{◌≡◌, length}
use Rattle.fields_lists.specs.Prefixes.{prefixes_after}
use Rattle.fields_lists.proofs.prefixes.are_prefixes.Given as goal

abbrev pub invariant-prefixes : goal.invariant-prefixes
invariant-prefixes l = prefixes_after 0 l.octets ≡ prefixes_after 0 l.left

abbrev pub decreases-prefixes : goal.decreases-prefixes
decreases-prefixes l = length l.left
