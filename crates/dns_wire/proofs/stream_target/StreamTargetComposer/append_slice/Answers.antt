use Rattle.std.proofs.Common.{Err, ap, ◌∙◌, arith, length, ◌+◌, ◌≤◌}
use Rattle.std.proofs.lemmas.Result.{err_from_is_err_and}
use Rattle.dns_wire.proofs.theory.CompressionTables.{clear_plain}
use Rattle.dns_wire.proofs.Streams.{message_length, refused}
use Rattle.dns_wire.proofs.stream_target.StreamTargetComposer.append_slice.Goals as goal

pub write_at-requires-clause-clear : goal.write_at-requires-clause-clear
write_at-requires-clause-clear g c = clear_plain _ _ _ (g.met.T.Composer.plain_forgets c.self.invariant.plain _)

pub returns-in_err-append_slice : goal.returns-in_err-append_slice
returns-in_err-append_slice g c =
    let p = err_from_is_err_and c.from_residual.result c.from_residual.ensures.1 in
    let len = message_length (g.T.Composer.written c.self.inside.target) _ c.self.invariant.long c.self.view_is in
    let target = ap length c.as_slice.ensures.octets in
    let few : length c.args.self.now + length c.args.octets.now ≤ 65535 = omega (arith, len, target, c.self.invariant.short) in
    refused _ _ _ _ _ _ _ c.in_err-append_slice.field-0.0 c.self.invariant.long c.as_slice.ensures.fits c.self.view_is few (p.1 ∙ ap Err p.2) c.in_err-append_slice.ensures
