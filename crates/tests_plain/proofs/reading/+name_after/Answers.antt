use Rattle.std.proofs.Common.{◌≡◌, refl, ◌+◌, ◌≤◌, arith, length}
use Rattle.std.proofs.lemmas.Result.{err_from_is_err_and, MatchResult-weaker}
use Rattle.arrayvec.specs.ArrayVec.{array_vec_len}
use Rattle.std.specs.Prelude.{Ok}
use Rattle.dns_name.specs.Names.{head_at, Begins, Faulty, max_size}
use Rattle.dns_name.specs.declared.head.Head.TheVariants.{Root, Label, Pointer}
use Rattle.dns_name.proofs.theory.ExtentLaws.{skip_fault}
use Rattle.tests_plain.proofs.NameSteps.{after_root, longer_count, after_label, fault_after_label, after_pointer}
use Rattle.tests_plain.proofs.reading.+name_after.Goals as goal

pub returns-in_err-head_at : goal.returns-in_err-head_at
returns-in_err-head_at t c =
    let p = err_from_is_err_and c.from_residual.result c.from_residual.ensures.1 in
    let size : c.len.result ≡ array_vec_len c.args.labels = omega (arith, c.len.ensures) in
    rw (p.1, p.2, ← size) (skip_fault _ c.in_err-head_at.ensures)

pub returns-in-Root : goal.returns-in-Root
returns-in-Root t c =
    let h : Begins c.args.octets.now c.args.offset c.len.result Root = rw c.in-Root.is at c.in_ok-head_at.ensures in
    after_root _ _ _ _ h.there c.requires c.push.ensures.items

pub returns-in-Label : goal.returns-in-Label
returns-in-Label t c =
    let b = c.args.octets.now in
    let p = c.args.offset in
    let n = c.in-Label.len in
    let h : Begins b p c.len.result (Label n) = rw c.in-Label.is at c.in_ok-head_at.ensures in
    let s : array_vec_len c.args.labels + n + 1 ≤ max_size = omega (arith, h.short n refl, c.len.ensures) in
    let fits : p + 1 + n ≤ length b = h.fits n refl in
    let at = p + 1 + c.from.result in
    let end : at ≡ p + 1 + n = omega (arith, c.from.ensures) in
    let longer = rw c.unwrap.ensures at c.try_extend_from_slice.ensures.ok in
    MatchResult-weaker c.name_after.result c.name_after.ensures
    (λ name x. after_label _ _ _ _ _ _ h.there fits end longer s _ x)
    (λ error x. fault_after_label _ _ _ _ _ _ h.there s fits end (longer_count _ _ _ _ _ _ h.there fits end longer) _ x)

pub returns-in-Pointer : goal.returns-in-Pointer
returns-in-Pointer t c =
    let at : c.from-in-Pointer.result ≡ c.in-Pointer.target = omega (arith, c.from-in-Pointer.ensures) in
    let h : Begins c.args.octets.now c.args.offset c.len.result (Pointer c.in-Pointer.target) = rw c.in-Pointer.is at c.in_ok-head_at.ensures in
    let there : head_at c.args.octets.now c.args.offset ≡ Ok (Pointer c.from-in-Pointer.result) = rw at h.there in
    MatchResult-weaker c.name_after-in-Pointer.result c.name_after-in-Pointer.ensures
    (λ name x. after_pointer _ _ _ _ there (omega arith) _ x)
    (λ error x. Faulty.pointer there (omega arith) x)

pub returns-in-Pointer-2 : goal.returns-in-Pointer-2
returns-in-Pointer-2 t c =
    let h : Begins c.args.octets.now c.args.offset c.len.result (Pointer c.in-Pointer-2._target) = rw c.in-Pointer-2.is at c.in_ok-head_at.ensures in
    Faulty.ahead h.there (omega arith)
