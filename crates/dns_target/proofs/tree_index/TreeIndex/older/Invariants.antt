use Rattle.std.proofs.Common.{◌≡◌, ◌≤◌, ◌∷◌, Some, false}
use Rattle.std.specs.Str.{bytes_eq}
use Rattle.dns_target.specs.TreeIndex.{IsWalk, entry_at, name_at}
use Rattle.dns_target.proofs.tree_index.TreeIndex.older.Given as goal

abbrev pub invariant-loop-at : goal.invariant-loop-at
invariant-loop-at l = record {
  walk : IsWalk l.self.entries (entry_at l.self.entries l.fn.newer).parent (l.label ∷ name_at l.self.entries (entry_at l.self.entries l.fn.newer).parent) (Some l.at);
  other : bytes_eq (entry_at l.self.entries l.at).label l.label ≡ false;
  within : l.at ≤ l.fn.newer;
}

abbrev pub decreases-loop-at : goal.decreases-loop-at
decreases-loop-at l = l.at
