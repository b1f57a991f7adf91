use Rattle.std.proofs.Common.{◌≡◌, arith, length, ◌<◌}
use Rattle.std.specs.Prelude.{Ok}
use Rattle.std.proofs.lemmas.Result.{err_from_is_err_and}
use Rattle.dns_name.specs.Names.{head_at, Begins}
use Rattle.dns_name.specs.Uncompressed.{NotUncompressed}
use Rattle.dns_name.specs.declared.head.Head.TheVariants.{Root, Label, Pointer}
use Rattle.dns_name.proofs.theory.UncompressedNames.{up_to_none, up_to_label, up_to_labels, up_to_root, up_to_more, up_to_pointer, up_to_fault}
use Rattle.dns_name.proofs.name.check.Goals as goal

pub walk-init : goal.walk-init
walk-init c = up_to_none c.args.octets.now

pub returns-in_err-after-clause-accepts : goal.returns-in_err-after-clause-accepts
returns-in_err-after-clause-accepts c = λ u. absurd (up_to_fault _ _ _ c.walk.invariant c.in_err-after.ensures.begins u)

pub returns-in_err-after-clause-fault : goal.returns-in_err-after-clause-fault
returns-in_err-after-clause-fault c =
    let p = err_from_is_err_and c.from_residual.result c.from_residual.ensures.1 in
    rw (p.1, p.2) (NotUncompressed.fault (c.walk.invariant.skips.faults _ c.in_err-after.ensures.begins))

pub walk-preserved : goal.walk-preserved
walk-preserved c =
    let h : Begins c.args.octets.now c.walk.size c.walk.size (Label c.in-Label.len) = rw c.in-Label.is at c.in_ok-after.ensures.begins in
    up_to_label _ _ _ _ c.walk.invariant h (omega arith)

pub returns-in-Pointer-clause-accepts : goal.returns-in-Pointer-clause-accepts
returns-in-Pointer-clause-accepts c =
    let h : head_at c.args.octets.now c.walk.size ≡ Ok (Pointer c.in-Pointer.field-0) = cc c.in_ok-after.ensures.begins.there in
    λ u. absurd (up_to_pointer _ _ _ c.walk.invariant h u)

pub returns-in-Pointer-clause-fault : goal.returns-in-Pointer-clause-fault
returns-in-Pointer-clause-fault c =
    let h : head_at c.args.octets.now c.walk.size ≡ Ok (Pointer c.in-Pointer.field-0) = cc c.in_ok-after.ensures.begins.there in
    NotUncompressed.pointer (up_to_labels _ _ c.walk.invariant) h

pub returns-then-octets-size-gt1-clause-accepts : goal.returns-then-octets-size-gt1-clause-accepts
returns-then-octets-size-gt1-clause-accepts c =
    let h : head_at c.args.octets.now c.walk.size ≡ Ok Root = cc c.in_ok-after.ensures.begins.there in
    λ u. absurd (up_to_more _ _ c.walk.invariant h (omega arith) u)

pub returns-then-octets-size-gt1-clause-fault : goal.returns-then-octets-size-gt1-clause-fault
returns-then-octets-size-gt1-clause-fault c =
    let h : head_at c.args.octets.now c.walk.size ≡ Ok Root = cc c.in_ok-after.ensures.begins.there in
    NotUncompressed.followed (up_to_labels _ _ c.walk.invariant) h (omega arith)

pub returns-clause-name : goal.returns-clause-name
returns-clause-name c =
    let h : head_at c.args.octets.now c.walk.size ≡ Ok Root = cc c.in_ok-after.ensures.begins.there in
    let within : c.walk.size < length c.args.octets.now = c.in_ok-after.ensures.begins.within in
    up_to_root _ _ c.walk.invariant h (omega arith)
