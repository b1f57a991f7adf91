use Rattle.std.proofs.Common.{◌≡◌}
use Rattle.arrayvec.specs.ArrayVec.{array_vec_len}
use Rattle.dns_target.specs.TableEntries.{cut_table_entries}
use Rattle.dns_target.specs.StaticIndex.{table_entries_of}
use Rattle.dns_target.proofs.static_index.StaticIndexSuffixIndex.forget.Given as goal

abbrev pub invariant-loop-last : goal.invariant-loop-last
invariant-loop-last l = cut_table_entries l.len (table_entries_of l.self-inside.entries.items) ≡ cut_table_entries l.len l.fn.self

abbrev pub decreases-loop-last : goal.decreases-loop-last
decreases-loop-last l = array_vec_len l.self-inside.entries
