use Rattle.std.proofs.Common.{◌≡◌, ℕ, ◌+◌, ◌<◌, true}
use Rattle.dns_wire.specs.Encoders.{Tree, may_enter}
use Rattle.dns_wire.specs.Choice.{label_offset}
use Rattle.dns_target.proofs.tree_index.in_range.Given as goal

abbrev pub invariant-loop-count : goal.invariant-loop-count
invariant-loop-count l = (i : ℕ) → i < l.count → may_enter Tree (label_offset l.offset l.labels i) (0 + i) ≡ true
