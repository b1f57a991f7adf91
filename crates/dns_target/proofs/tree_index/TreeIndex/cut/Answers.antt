use Rattle.std.proofs.Common.{ap, ◌∙◌, refl, arith}
use Rattle.dns_target.specs.TreeIndex.{code, Entry, cut_entries, entry_of}
use Rattle.dns_target.proofs.NewestFirst.{cut-popped}
use Rattle.dns_target.proofs.Trees.{last_back, linked_pop, linked_pop_at}
use Rattle.dns_target.proofs.tree_index.TreeIndex.cut.Goals as goal

pub index_mut-requires : goal.index_mut-requires
index_mut-requires c =
    let back = last_back _ _ _ c.in-Some-pop.node c.loop-last.invariant.0 c.in-Some-pop.ensures.items in
    let parent = ap code c.in-Some-parent.is in
    let size = c.pop.new.self.ok.0 in omega arith

pub loop-last-preserved-in-None : goal.loop-last-preserved-in-None
loop-last-preserved-in-None c = (
  linked_pop _ _ _ c.in-Some-pop.node c.loop-last.invariant.0 c.in-Some-pop.ensures.items c.in-None.is,
  cut-popped entry_of (λ (t : Entry). t.end) c.args.len _ _ _ c.in-Some-pop.node c.in-Some.last.now c.in-Some-pop.ensures.items
      c.deref.ensures.value c.in-Some.ensures.value c.if-last-len.false ∙ c.loop-last.invariant.1,
)

pub loop-last-preserved : goal.loop-last-preserved
loop-last-preserved c =
    let done = linked_pop_at _ _ _ _ c.in-Some-pop.node _ c.index_mut.result.now c.in-Some-parent.i c.loop-last.invariant.0
    c.in-Some-pop.ensures.items c.in-Some-parent.is refl c.index_mut.ensures.value refl refl refl refl in (
      done.0,
      ap (cut_entries c.args.len) done.1
          ∙ cut-popped entry_of (λ (t : Entry). t.end) c.args.len _ _ _ c.in-Some-pop.node c.in-Some.last.now c.in-Some-pop.ensures.items
          c.deref.ensures.value c.in-Some.ensures.value c.if-last-len.false ∙ c.loop-last.invariant.1,
    )
