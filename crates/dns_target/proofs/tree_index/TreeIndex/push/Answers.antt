use Rattle.std.proofs.Common.{List, get_or, ◌∷◌, Option, ℕ, ap, sym, ◌∙◌, arith, length, refl, ◌≡◌, Some, subst}
use Rattle.dns_target.specs.declared.tree_index.Node.{Node}
use Rattle.dns_target.specs.TreeIndex.{code, parents_of, children_of, IsRun, Shape, IsIn}
use Rattle.dns_target.proofs.Trees.{linked_push, linked_push_at, length-entries}
use Rattle.dns_target.proofs.tree_index.TreeIndex.push.Goals as goal

pub invariant_of-self : goal.invariant_of-self
invariant_of-self c =
    linked_push c.self.inside.nodes.items _ c.self.inside.newest _ _ c.self.invariant c.push_reserved.ensures.items
    (let k = c.self.inside.nodes.ok.0 in omega (arith, c.len-index.ensures)) refl c.in-None.is
    (c.newest_of-older.ensures ∙ ap (λ (ns : List Node). get_or (code c.self.inside.newest ∷ children_of ns) (code c.args.parent) 0)
    c.deref.ensures.value) (subst (λ (ns : List Node). IsRun (parents_of ns) (code c.args.parent) (length ns) c.run_before-run.result)
    c.deref-2.ensures.value c.run_before-run.ensures)

pub invariant_of-self-in-Some : goal.invariant_of-self-in-Some
invariant_of-self-in-Some c =
    (linked_push_at c.self.inside.nodes.items _ _ c.self.inside.newest _ _ c.index_mut.result.now c.in-Some.i _ c.self.invariant
    c.push_reserved.ensures.items (let k = c.self.inside.nodes.ok.0 in omega (arith, c.len-index.ensures)) refl c.in-Some.is
    (let k : length c.self.inside.nodes.items ≡ length c.args.self.now.entries = sym (length-entries c.self.inside.nodes.items)
    ∙ ap (λ (s : Shape). length s.entries) c.self.view_is in let back : IsIn (length c.args.self.now.entries) (Some c.in-Some.i) = subst
    (λ (o : Option ℕ). IsIn (length c.args.self.now.entries) o) c.in-Some.is c.requires.back in omega arith)
    (c.newest_of-older.ensures ∙ ap (λ (ns : List Node). get_or (code c.self.inside.newest ∷ children_of ns) (code c.args.parent) 0)
    c.deref.ensures.value) (subst (λ (ns : List Node). IsRun (parents_of ns) (code c.args.parent) (length ns) c.run_before-run.result)
    c.deref-2.ensures.value c.run_before-run.ensures) refl c.index_mut.ensures.value refl refl refl refl).0

pub returns-in-Some-clause-entries : goal.returns-in-Some-clause-entries
returns-in-Some-clause-entries c =
    let k : length c.self.inside.nodes.items ≡ length c.args.self.now.entries = sym (length-entries c.self.inside.nodes.items) ∙ ap (λ (s : Shape). length s.entries) c.self.view_is in
    let back : IsIn (length c.args.self.now.entries) (Some c.in-Some.i) = subst (λ (o : Option ℕ). IsIn (length c.args.self.now.entries) o) c.in-Some.is c.requires.back in
    let size : c.len-index.result ≡ length c.self.inside.nodes.items = let z = c.self.inside.nodes.ok.0 in omega (arith, c.len-index.ensures) in
    (linked_push_at c.self.inside.nodes.items _ _ c.self.inside.newest _ _ c.index_mut.result.now c.in-Some.i _ c.self.invariant
    c.push_reserved.ensures.items size refl c.in-Some.is (omega arith)
    (c.newest_of-older.ensures ∙ ap (λ (ns : List Node). get_or (code c.self.inside.newest ∷ children_of ns) (code c.args.parent) 0)
    c.deref.ensures.value) (subst (λ (ns : List Node). IsRun (parents_of ns) (code c.args.parent) (length ns) c.run_before-run.result)
    c.deref-2.ensures.value c.run_before-run.ensures) refl c.index_mut.ensures.value refl refl refl refl).1
    ∙ (λ i. record { label = c.new.ensures i; offset = c.args.offset; end = c.args.end; parent = c.args.parent } ∷ (c.self.view_is i).entries)
