use Rattle.std.proofs.Common.{◌≤◌, length, drop}
use Rattle.dns_target.specs.TableEntries.{table_in}
use Rattle.dns_target.specs.HashIndex.{ParentIsName, table_entries_in}
use Rattle.dns_target.proofs.hash_index.HashIndexSuffixIndex.look_up.Given as goal

abbrev pub invariant-loop-from : goal.invariant-loop-from
invariant-loop-from l = record {
  within : l.from ≤ length l.labels;
  path : ParentIsName (table_in l.content (table_entries_in l.self.suffixes.suffixes)) l.offset (drop l.from l.labels);
}

abbrev pub decreases-loop-from : goal.decreases-loop-from
decreases-loop-from l = l.from
