use Rattle.std.proofs.Common.{◌≡◌, ◌<◌, ◌+◌, arith, refl, subst, sym}
use Rattle.std.specs.Prelude.{Ok}
use Rattle.std.proofs.lemmas.Result.{err_from_is_err_and}
use Rattle.dns_name.specs.Names.{Begins, head_at, pointer_end}
use Rattle.dns_name.specs.declared.head.Head.TheVariants.{Root, Label, Pointer}
use Rattle.dns_name.proofs.theory.HeadLemmas.{skips_label, skips_root, skips_pointer}
use Rattle.dns_edit.specs.Marks.{IsMarked}
use Rattle.dns_edit.specs.Pointers.{PointsTo}
use Rattle.dns_edit.proofs.WalkLemmas.{walking_label, walked_root, walked_pointer, walked_nowhere}
use Rattle.dns_edit.proofs.labels.walk_name.Goals as goal

pub returns-in_err-after-clause-refuses : goal.returns-in_err-after-clause-refuses
returns-in_err-after-clause-refuses c =
    let p = err_from_is_err_and c.from_residual.result c.from_residual.ensures.1 in
    rw (p.1, p.2) (λ names m. c.walk.invariant.0.faults _ c.in_err-after.ensures.begins)

pub returns-in-Root-clause-ends : goal.returns-in-Root-clause-ends
returns-in-Root-clause-ends c =
    let h : head_at c.args.octets.now c.walk.pos ≡ Ok Root = cc (c.in_ok-after.ensures.begins.there, c.in-Root.is) in
    (skips_root _ _ _ _ _ c.walk.invariant.0 h refl).0

pub returns-in-Root-clause-accepts : goal.returns-in-Root-clause-accepts
returns-in-Root-clause-accepts c =
    let h : head_at c.args.octets.now c.walk.pos ≡ Ok Root = cc (c.in_ok-after.ensures.begins.there, c.in-Root.is) in
    walked_root _ _ _ _ _ _ c.walk.invariant.1 h (skips_root _ _ _ _ _ c.walk.invariant.0 h refl).0

pub walk-preserved : goal.walk-preserved
walk-preserved c =
    let h : Begins c.args.octets.now c.walk.pos c.walk.size (Label c.in-Label.len) = rw c.in-Label.is at c.in_ok-after.ensures.begins in
    let e : c.from-taken.result ≡ c.in-Label.len = c.from-taken.ensures in
    let to : c.walk.pos + (c.from-taken.result + 1) ≡ c.walk.pos + 1 + c.in-Label.len = omega arith in
    let size : c.walk.size + (c.from-taken.result + 1) ≡ c.walk.size + c.in-Label.len + 1 = omega arith in
    (skips_label _ _ _ _ _ _ _ c.walk.invariant.0 h size to, walking_label _ _ _ _ _ _ _ _ c.walk.invariant.1 h.there c.mark.ensures to)

pub returns-then-is_marked_before-clause-ends : goal.returns-then-is_marked_before-clause-ends
returns-then-is_marked_before-clause-ends c =
    let h : head_at c.args.octets.now c.walk.pos ≡ Ok (Pointer c.in-Pointer.target) = cc (c.in_ok-after.ensures.begins.there, c.in-Pointer.is) in
    (skips_pointer _ _ _ _ _ _ c.walk.invariant.0 h refl).0

pub returns-then-is_marked_before-clause-within : goal.returns-then-is_marked_before-clause-within
returns-then-is_marked_before-clause-within c =
    let h : head_at c.args.octets.now c.walk.pos ≡ Ok (Pointer c.in-Pointer.target) = cc (c.in_ok-after.ensures.begins.there, c.in-Pointer.is) in
    (skips_pointer _ _ _ _ _ _ c.walk.invariant.0 h refl).1

pub returns-then-is_marked_before-clause-accepts : goal.returns-then-is_marked_before-clause-accepts
returns-then-is_marked_before-clause-accepts c =
    let h : head_at c.args.octets.now c.walk.pos ≡ Ok (Pointer c.in-Pointer.target) = cc (c.in_ok-after.ensures.begins.there, c.in-Pointer.is) in
    let e : c.from.result ≡ c.in-Pointer.target = c.from.ensures in
    let ends = (skips_pointer _ _ _ _ _ _ c.walk.invariant.0 h refl).0 in
    let set = c.is_marked_before.ensures.0 c.if-is_marked_before.true in
    let less = set.0 in
    walked_pointer _ _ _ _ _ _ _ c.walk.invariant.1 h ends (omega arith) (subst (λ t. IsMarked c.walk.marks t) e set.1)

pub returns-in-Pointer-clause-refuses : goal.returns-in-Pointer-clause-refuses
returns-in-Pointer-clause-refuses c =
    let h : head_at c.args.octets.now c.walk.pos ≡ Ok (Pointer c.in-Pointer.target) = cc (c.in_ok-after.ensures.begins.there, c.in-Pointer.is) in
    let e : c.from.result ≡ c.in-Pointer.target = c.from.ensures in
    let small : c.in-Pointer.target < pointer_end = rw c.in-Pointer.is at c.in_ok-after.ensures.in_reach in
    let unmarked : (c.in-Pointer.target < c.args.start) × IsMarked c.walk.marks c.in-Pointer.target → ⊥ =
    λ x. let yes = c.is_marked_before.ensures.1 (subst (λ t. (t < c.args.start) × IsMarked c.walk.marks t) (sym e) x) in let no = c.if-is_marked_before.false in cc in
    λ names m. (
      c.walk.pos + 2,
      c.in-Pointer.target,
      (skips_pointer _ _ _ _ _ _ c.walk.invariant.0 h refl).0,
      c.walk.invariant.1.points_back _ (PointsTo.pointer h),
      walked_nowhere _ _ _ _ _ _ c.walk.invariant.1 small unmarked names m,
    )
