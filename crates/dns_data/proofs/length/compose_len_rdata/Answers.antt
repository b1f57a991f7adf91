use Rattle.std.proofs.Common.{Err, ap, ◌∙◌}
use Rattle.std.proofs.lemmas.Result.{err_from_is_err_and}
use Rattle.dns_wire.specs.Parts.{encode_parts}
use Rattle.dns_wire.proofs.theory.EncodedNames.{encode_parts_grows}
use Rattle.dns_data.proofs.WrittenLengths.{clear_length, encoder_refused}
use Rattle.dns_data.proofs.length.compose_len_rdata.Goals as goal

pub returns-in_err-compose_rdata-clause-composes : goal.returns-in_err-compose_rdata-clause-composes
returns-in_err-compose_rdata-clause-composes g c =
    let p = err_from_is_err_and c.from_residual-in_err-compose_rdata.result c.from_residual-in_err-compose_rdata.ensures.1 in
    encoder_refused _ _ (encode_parts g.T.Composer.rule (g.D.RecordData.parts c.args.data.now)) _ _ _ c.compose_rdata.result c.from_residual-in_err-compose_rdata.result
    c.in_err-compose_rdata.field-0.0 c.in_err-compose_rdata.was (p.1 ∙ ap Err p.2) c.in_ok-append_slice.ensures.ok c.compose_rdata.ensures.composes

pub write_length-requires-clause-clear : goal.write_length-requires-clause-clear
write_length-requires-clause-clear g c =
    rw c.as_slice-offset.ensures.octets
    (clear_length (encode_parts g.T.Composer.rule (g.D.RecordData.parts c.args.data.now)) _ _ _ (encode_parts_grows _ _) c.as_slice-offset.ensures.is_target
    c.in_ok-append_slice.ensures.ok c.in_ok-compose_rdata.ensures.composes.ok)
