use Rattle.std.proofs.Common.{arith, refl}
use Rattle.std.proofs.lemmas.Result.{err_from_is_err_and}
use Rattle.dns_name.specs.Names.{Begins, NameContinues}
use Rattle.dns_name.specs.declared.head.Head.TheVariants.{Root, Label, Pointer}
use Rattle.dns_name.proofs.theory.HeadLemmas.{pointer_within}
use Rattle.tests_plain.proofs.NameSteps.{ends_after_label}
use Rattle.tests_plain.proofs.reading.+end_after.Goals as goal

pub returns-in_err-head_at : goal.returns-in_err-head_at
returns-in_err-head_at t c =
    let p = err_from_is_err_and c.from_residual.result c.from_residual.ensures.1 in
    rw (p.1, p.2) c.in_err-head_at.ensures

pub returns-in-Root : goal.returns-in-Root
returns-in-Root t c =
    let h : Begins c.args.octets.now c.args.offset c.args.size Root = rw c.in-Root.is at c.in_ok-head_at.ensures in
    (NameContinues.root h.there, omega (arith, h.within))

pub returns-in-Label : goal.returns-in-Label
returns-in-Label t c =
    let n = c.in-Label.len in
    let h : Begins c.args.octets.now c.args.offset c.args.size (Label n) = rw c.in-Label.is at c.in_ok-head_at.ensures in
    ends_after_label _ _ _ _ _ _ c.end_after.result h.there (h.short n refl) (h.fits n refl) (omega arith) (omega arith) c.end_after.ensures

pub returns-in-Pointer : goal.returns-in-Pointer
returns-in-Pointer t c =
    let h : Begins c.args.octets.now c.args.offset c.args.size (Pointer c.in-Pointer._target) = rw c.in-Pointer.is at c.in_ok-head_at.ensures in
    (NameContinues.pointer h.there, omega (arith, pointer_within _ _ _ h.there))
