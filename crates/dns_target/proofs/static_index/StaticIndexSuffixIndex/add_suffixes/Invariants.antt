use Rattle.std.proofs.Common.{◌≡◌, ◌≤◌, ◌+◌, drop, length}
use Rattle.dns_wire.specs.Choice.{first_suffixes}
use Rattle.dns_target.specs.TableEntries.{with_suffixes}
use Rattle.dns_target.proofs.static_index.StaticIndexSuffixIndex.add_suffixes.Given as goal

abbrev pub invariant-loop-index : goal.invariant-loop-index
invariant-loop-index l = record {
  within : l.index ≤ l.count;
  entries : l.self ≡ with_suffixes l.fn.self (drop l.index (first_suffixes l.count l.labels l.offset)) (length l.content);
  size : length l.self + l.index ≡ length l.fn.self + l.count;
}

abbrev pub decreases-loop-index : goal.decreases-loop-index
decreases-loop-index l = l.index
