use Rattle.std.proofs.Common.{◌≡◌, ◌<◌, ◌≤◌, drop, length}
use Rattle.dns_wire.specs.Choice.{first_suffixes}
use Rattle.dns_target.specs.TableEntries.{table_in, with_suffixes}
use Rattle.dns_target.specs.HashIndex.{table_entries_in, ParentIsName, IsParent, AreKeyed}
use Rattle.dns_target.proofs.hash_index.HashIndexSuffixIndex.add_suffixes.Given as goal

abbrev pub invariant-loop-index : goal.invariant-loop-index
invariant-loop-index l = record {
  within : l.index ≤ l.count;
  spare_capacity : l.index ≤ l.self.suffixes.spare_capacity;
  entries : table_entries_in l.self.suffixes.suffixes ≡ with_suffixes (table_entries_in l.fn.self.suffixes.suffixes) (drop l.index (first_suffixes l.count l.labels l.offset)) (length l.content);
  keyed : AreKeyed l.content l.self.suffixes.suffixes;
  found : IsParent l.content l.self.suffixes.suffixes l.found.offset;
  last : IsParent l.content l.self.suffixes.suffixes l.parent;
  parent : 0 < l.count → ParentIsName (table_in l.content (table_entries_in l.self.suffixes.suffixes)) l.parent (drop l.index l.labels);
}

abbrev pub decreases-loop-index : goal.decreases-loop-index
decreases-loop-index l = l.index
