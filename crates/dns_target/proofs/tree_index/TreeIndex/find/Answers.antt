use Rattle.std.proofs.Common.{List, ◌∷◌, get_or, Option, Some, true, false, ap, sym, ◌∙◌, subst, arith, length, ℕ}
use Rattle.dns_target.specs.declared.tree_index.Node.{Node}
use Rattle.dns_target.specs.TreeIndex.{Shape, IsIn, IsWalk, name_at, code, children_of}
use Rattle.dns_target.proofs.Trees.{fewer_follow, found_here, length-of, label_there, walk_begins}
use Rattle.dns_target.proofs.tree_index.TreeIndex.find.Goals as goal

pub newest_of-at-requires : goal.newest_of-at-requires
newest_of-at-requires c =
    subst (λ (n : ℕ). IsIn n c.args.parent) (length-of c.self.inside.nodes.items c.args.self.now.entries
    (ap (λ (s : Shape). s.entries) c.self.view_is) ∙ ap length (sym c.deref.ensures.value)) c.requires.parent

pub loop-at-init : goal.loop-at-init
loop-at-init c =
    walk_begins c.self.inside.nodes.items c.args.self.now.entries c.self.inside.newest c.args.parent c.newest_of-at.result c.args.label.now
    (ap (λ (s : Shape). s.entries) c.self.view_is) c.self.invariant c.requires.tree c.requires.parent
    (c.newest_of-at.ensures ∙ ap (λ (ns : List Node). get_or (code c.self.inside.newest ∷ children_of ns) (code c.args.parent) 0) c.deref.ensures.value)

-- the search at the node that is compared, for the parent of that node
pub older-at-requires-clause-walk : goal.older-at-requires-clause-walk
older-at-requires-clause-walk c =
    let here = subst (λ (o : Option ℕ). IsWalk c.args.self.now.entries c.args.parent (c.args.label.now ∷ name_at c.args.self.now.entries c.args.parent) o) c.in-Some.is c.loop-at.invariant in
    subst (λ (r : Option ℕ). IsWalk c.args.self.now.entries r (c.args.label.now ∷ name_at c.args.self.now.entries r) (Some c.in-Some.i)) (sym here.2) here

pub index-requires : goal.index-requires
index-requires c =
    let here = subst (λ (o : Option ℕ). IsWalk c.args.self.now.entries c.args.parent (c.args.label.now ∷ name_at c.args.self.now.entries c.args.parent) o) c.in-Some.is c.loop-at.invariant in
    omega (arith, here.0, length-of c.self.inside.nodes.items c.args.self.now.entries (ap (λ (s : Shape). s.entries) c.self.view_is))

pub returns-then-is : goal.returns-then-is
returns-then-is c =
    let here = subst (λ (o : Option ℕ). IsWalk c.args.self.now.entries c.args.parent (c.args.label.now ∷ name_at c.args.self.now.entries c.args.parent) o) c.in-Some.is c.loop-at.invariant in (
      here.0,
      found_here c.args.self.now.entries c.args.parent c.args.label.now c.in-Some.i c.requires.tree here.0 here.2
          (label_there c.self.inside.nodes.items c.args.self.now.entries c.index.result.now c.args.label.now c.in-Some.i _ true
          (ap (λ (s : Shape). s.entries) c.self.view_is) here.0 c.index.ensures c.is.ensures c.if-is.true),
    )

pub older-at-requires-clause-other : goal.older-at-requires-clause-other
older-at-requires-clause-other c =
    let here = subst (λ (o : Option ℕ). IsWalk c.args.self.now.entries c.args.parent (c.args.label.now ∷ name_at c.args.self.now.entries c.args.parent) o) c.in-Some.is c.loop-at.invariant in
    label_there c.self.inside.nodes.items c.args.self.now.entries c.index.result.now c.args.label.now c.in-Some.i _ false
    (ap (λ (s : Shape). s.entries) c.self.view_is) here.0 c.index.ensures c.is.ensures c.if-is.false

pub loop-at-smaller : goal.loop-at-smaller
loop-at-smaller c = fewer_follow c.older-at.result c.in-Some.i _ c.older-at.ensures.older (ap code c.in-Some.is)

pub loop-at-preserved : goal.loop-at-preserved
loop-at-preserved c =
    let here = subst (λ (o : Option ℕ). IsWalk c.args.self.now.entries c.args.parent (c.args.label.now ∷ name_at c.args.self.now.entries c.args.parent) o) c.in-Some.is c.loop-at.invariant in
    subst (λ (r : Option ℕ). IsWalk c.args.self.now.entries r (c.args.label.now ∷ name_at c.args.self.now.entries r) c.older-at.result) here.2 c.older-at.ensures.walk

pub returns : goal.returns
returns c = subst (λ (o : Option ℕ). IsWalk c.args.self.now.entries c.args.parent (c.args.label.now ∷ name_at c.args.self.now.entries c.args.parent) o) c.in_default.is c.loop-at.invariant
