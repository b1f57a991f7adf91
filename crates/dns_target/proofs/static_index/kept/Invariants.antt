use Rattle.std.proofs.Common.{◌≡◌, ℕ, ◌+◌, ◌<◌, ◌≤◌, true}
use Rattle.dns_wire.specs.Encoders.{Static, may_enter}
use Rattle.dns_wire.specs.Choice.{label_offset}
use Rattle.dns_target.proofs.static_index.kept.Given as goal

abbrev pub invariant-loop-count : goal.invariant-loop-count
invariant-loop-count l = record {
  in_range : (i : ℕ) → i < l.count → may_enter Static (label_offset l.offset l.labels i) (l.entry_count + i) ≡ true;
  few : l.entry_count + l.count ≤ 24;
}
