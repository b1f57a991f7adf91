use Rattle.std.proofs.Common.{◌≡◌, vec_len}
use Rattle.dns_target.specs.TreeIndex.{cut_entries, entries_of, IsLinked}
use Rattle.dns_target.proofs.tree_index.TreeIndex.cut.Given as goal

abbrev pub invariant-loop-last : goal.invariant-loop-last
invariant-loop-last l = IsLinked l.self-inside.nodes.items l.self-inside.newest × (cut_entries l.len (entries_of l.self-inside.nodes.items) ≡ cut_entries l.len l.fn.self.entries)

abbrev pub decreases-loop-last : goal.decreases-loop-last
decreases-loop-last l = vec_len l.self-inside.nodes
