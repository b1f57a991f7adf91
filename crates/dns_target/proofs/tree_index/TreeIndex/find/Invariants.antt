use Rattle.std.proofs.Common.{◌∷◌}
use Rattle.dns_target.specs.TreeIndex.{code, IsWalk, name_at}
use Rattle.dns_target.proofs.tree_index.TreeIndex.find.Given as goal

abbrev pub invariant-loop-at : goal.invariant-loop-at
invariant-loop-at l = IsWalk l.self.entries l.fn.parent (l.label ∷ name_at l.self.entries l.fn.parent) l.at

abbrev pub decreases-loop-at : goal.decreases-loop-at
decreases-loop-at l = code l.at
