use Rattle.std.proofs.Common.{◌≡◌, length}
use Rattle.dns_edns.specs.OptionsOf.{are_options}
use Rattle.dns_edns.proofs.options.are_options.Given as goal

abbrev pub invariant-loop-left : goal.invariant-loop-left
invariant-loop-left l = are_options l.left ≡ are_options l.initial.left

abbrev pub decreases-loop-left : goal.decreases-loop-left
decreases-loop-left l = length l.left
