use Rattle.std.proofs.Common.{◌<◌, ◌≤◌, ◌-◌, Option, None, Some, ℕ, false, ap, arith}
use Rattle.std.specs.Prelude.{IfSome}
use Rattle.dns_target.specs.TreeIndex.{Shape, entry_at}
use Rattle.dns_target.proofs.Trees.{length-of, label_there, parent-in, run_there, walk_before, walk_older}
use Rattle.dns_target.proofs.tree_index.TreeIndex.older.Goals as goal

pub index-requires : goal.index-requires
index-requires c = let l = c.requires.walk.0 in omega (arith, length-of c.self.inside.nodes.items c.args.self.now.entries (ap (λ (s : Shape). s.entries) c.self.view_is))

pub overflow_sub-first : goal.overflow_sub-first
overflow_sub-first c =
    let run = run_there c.self.inside.nodes.items c.args.self.now.entries c.self.inside.newest c.index.result.now c.args.newer
    (ap (λ (s : Shape). s.entries) c.self.view_is) c.self.invariant c.requires.walk.0 c.index.ensures in
    let l = run.within in omega arith

pub loop-at-init : goal.loop-at-init
loop-at-init c = record { walk = c.requires.walk; other = c.requires.other; within = omega arith }

pub index-requires-in-loop-at : goal.index-requires-in-loop-at
index-requires-in-loop-at c = let l = c.loop-at.invariant.walk.0 in omega (arith, length-of c.self.inside.nodes.items c.args.self.now.entries (ap (λ (s : Shape). s.entries) c.self.view_is))

pub returns-then-is-clause-walk : goal.returns-then-is-clause-walk
returns-then-is-clause-walk c =
    let same = ap (λ (s : Shape). s.entries) c.self.view_is in
    walk_before c.self.inside.nodes.items c.args.self.now.entries
    (entry_at c.args.self.now.entries c.args.newer).parent c.args.label.now c.loop-at.at c.args.newer _ same c.requires.tree
    c.loop-at.invariant.walk c.loop-at.invariant.other
    (run_there c.self.inside.nodes.items c.args.self.now.entries c.self.inside.newest c.index.result.now c.args.newer same c.self.invariant
    c.requires.walk.0 c.index.ensures) c.loop-at-test.true c.loop-at.invariant.within

pub returns-then-is-clause-older : goal.returns-then-is-clause-older
returns-then-is-clause-older c = let l = c.loop-at.invariant.within in let some = c.loop-at-test.true in omega arith

pub loop-at-preserved : goal.loop-at-preserved
loop-at-preserved c =
    let same = ap (λ (s : Shape). s.entries) c.self.view_is in
    let walk = walk_before c.self.inside.nodes.items c.args.self.now.entries
    (entry_at c.args.self.now.entries c.args.newer).parent c.args.label.now c.loop-at.at c.args.newer _ same c.requires.tree
    c.loop-at.invariant.walk c.loop-at.invariant.other
    (run_there c.self.inside.nodes.items c.args.self.now.entries c.self.inside.newest c.index.result.now c.args.newer same c.self.invariant
    c.requires.walk.0 c.index.ensures) c.loop-at-test.true c.loop-at.invariant.within in
    record {
      walk = walk;
      other = label_there c.self.inside.nodes.items c.args.self.now.entries c.index-in-loop-at.result.now c.args.label.now
          (c.loop-at.at - 1) _ false same walk.0 c.index-in-loop-at.ensures c.is.ensures c.if-is.false;
      within = let l = c.loop-at.invariant.within in omega arith;
    }

pub index-requires-2 : goal.index-requires-2
index-requires-2 c = let l = c.loop-at.invariant.walk.0 in omega (arith, length-of c.self.inside.nodes.items c.args.self.now.entries (ap (λ (s : Shape). s.entries) c.self.view_is))

pub returns-clause-walk : goal.returns-clause-walk
returns-clause-walk c =
    (walk_older c.self.inside.nodes.items c.args.self.now.entries c.self.inside.newest c.index-2.result.now
    (entry_at c.args.self.now.entries c.args.newer).parent c.args.label.now c.loop-at.at
    (ap (λ (s : Shape). s.entries) c.self.view_is) c.self.invariant c.requires.tree
    (parent-in c.args.self.now.entries c.args.newer c.requires.tree c.requires.walk.0)
    c.loop-at.invariant.walk c.loop-at.invariant.other c.index-2.ensures).0

pub returns-clause-older : goal.returns-clause-older
returns-clause-older c =
    let next = (walk_older c.self.inside.nodes.items c.args.self.now.entries c.self.inside.newest c.index-2.result.now
    (entry_at c.args.self.now.entries c.args.newer).parent c.args.label.now c.loop-at.at
    (ap (λ (s : Shape). s.entries) c.self.view_is) c.self.invariant c.requires.tree
    (parent-in c.args.self.now.entries c.args.newer c.requires.tree c.requires.walk.0)
    c.loop-at.invariant.walk c.loop-at.invariant.other c.index-2.ensures).1 in
    below_newer c.index-2.result.now.older c.loop-at.at c.args.newer next c.loop-at.invariant.within
  where
    below_newer : (o : Option ℕ) (i n : ℕ) → IfSome o (λ k. k < i) → i ≤ n → IfSome o (λ k. k < n)
    below_newer None i n l m = tt
    below_newer (Some k) i n l m = omega arith
