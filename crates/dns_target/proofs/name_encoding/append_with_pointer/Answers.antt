use Rattle.std.proofs.Common.{◌+◌, Err, length, ap, sym, ◌∙◌, arith}
use Rattle.std.proofs.lemmas.List.{length-take-le}
use Rattle.std.proofs.lemmas.Result.{err_from_is_err_and}
use Rattle.dns_wire.specs.Encoders.{pointer}
use Rattle.dns_target.proofs.Starts.{two_after}
use Rattle.dns_target.proofs.Overwrites.{appended_within, appended_clear, appends_over, append_fails}
use Rattle.dns_target.proofs.name_encoding.append_with_pointer.Goals as goal

pub slice_bounds-append_slice-end-2 : goal.slice_bounds-append_slice-end-2
slice_bounds-append_slice-end-2 g c =
    let k = two_after c.args.labels.now c.octets-octets.result.now c.args.from c.start-before.result c.octets-octets.ensures.octets c.requires.from c.start-before.ensures.start in
    sym (length-take-le (c.start-before.result + 2) c.octets-octets.result.now k)

pub returns-in_err-append_slice : goal.returns-in_err-append_slice
returns-in_err-append_slice g c =
    let k = two_after c.args.labels.now c.octets-octets.result.now c.args.from c.start-before.result c.octets-octets.ensures.octets c.requires.from c.start-before.ensures.start in
    let p = err_from_is_err_and c.from_residual.result c.from_residual.ensures.1 in
    rw (← c.octets-octets.ensures.octets, ← c.start-before.ensures.start)
    (append_fails _ _ _ _ c.octets-octets.result.now (pointer c.args.at) c.start-before.result c.from_residual.result
    c.in_err-append_slice.field-0.0 k (p.1 ∙ ap Err p.2) c.in_err-append_slice.ensures)

pub write_at-requires-clause-within : goal.write_at-requires-clause-within
write_at-requires-clause-within g c =
    let k = two_after c.args.labels.now c.octets-octets.result.now c.args.from c.start-before.result c.octets-octets.ensures.octets c.requires.from c.start-before.ensures.start in
    rw c.pointer_to-2.ensures
    (appended_within (g.T.Composer.written c.args.target.now) (g.T.Composer.written c.append_slice-2.new.self) c.octets-octets.result.now
    (pointer c.args.at) (length c.as_slice-len.result.now) c.start-before.result k
    (ap length c.as_slice-len.ensures.octets) c.in_ok-append_slice.ensures.ok)

pub write_at-requires-clause-clear : goal.write_at-requires-clause-clear
write_at-requires-clause-clear g c =
    let at = ap length c.as_slice-len.ensures.octets in
    appended_clear (g.T.Composer.written c.args.target.now) (g.T.Composer.written c.append_slice-2.new.self) _ _ _ c.as_slice-len.ensures.is_target (omega arith) c.in_ok-append_slice.ensures.ok

pub returns : goal.returns
returns g c =
    let k = two_after c.args.labels.now c.octets-octets.result.now c.args.from c.start-before.result c.octets-octets.ensures.octets c.requires.from c.start-before.ensures.start in
    rw (← c.octets-octets.ensures.octets, ← c.start-before.ensures.start)
    (appends_over _ _ _ _ _ c.octets-octets.result.now (pointer c.args.at) (length c.as_slice-len.result.now) c.start-before.result k
    (ap length c.as_slice-len.ensures.octets) c.in_ok-append_slice.ensures (rw c.pointer_to-2.ensures at c.write_at.ensures))
