use Rattle.std.proofs.Common.{◌≡◌, ◌≤◌, ◌+◌, drop, length}
use Rattle.dns_wire.specs.Choice.{first_suffixes}
use Rattle.dns_target.specs.FingerprintIndex.{table_entries_at, AreHashed}
use Rattle.dns_target.specs.TableEntries.{with_suffixes}
use Rattle.dns_target.proofs.fingerprint_index.FingerprintIndexSuffixIndex.add_suffixes.Given as goal

abbrev pub invariant-loop-index : goal.invariant-loop-index
invariant-loop-index l = record {
  within : l.index ≤ l.count;
  entries : table_entries_at l.self.suffixes ≡ with_suffixes (table_entries_at l.fn.self.suffixes) (drop l.index (first_suffixes l.count l.labels l.offset)) (length l.content);
  hashed : AreHashed l.content l.self.suffixes;
  capacity : length l.self.suffixes + l.index ≤ l.self.capacity;
}

abbrev pub decreases-loop-index : goal.decreases-loop-index
decreases-loop-index l = l.index
