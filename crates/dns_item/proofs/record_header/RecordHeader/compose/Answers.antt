use Rattle.std.proofs.Common.{Err, ap, ◌∙◌}
use Rattle.std.proofs.lemmas.Result.{err_from_is_err_and}
use Rattle.dns_wire.specs.Encoders.{encode_octets, encode_name}
use Rattle.dns_wire.proofs.theory.EncodedNames.{encode_name_grows}
use Rattle.dns_wire.proofs.theory.EncoderLaws.{appends_compose, composes_both, composes_first}
use Rattle.dns_item.specs.RecordHeader.{header_item, header_fields, encode_header}
use Rattle.dns_item.proofs.record_header.RecordHeader.compose.Goals as goal

pub returns-in_err-append_compressed_name : goal.returns-in_err-append_compressed_name
unfolding encode_header
returns-in_err-append_compressed_name g c =
    let p = err_from_is_err_and c.from_residual.result c.from_residual.ensures.1 in
    let x = header_item g.N.ToName.name c.args.self.now in
    composes_first _ _ _ (encode_octets (header_fields x.rtype x.class x.ttl x.rdlen)) _ _ c.append_compressed_name.result c.from_residual.result c.in_err-append_compressed_name.field-0.0
    c.in_err-append_compressed_name.was (p.1 ∙ ap Err p.2)
    (appends_compose _ _ _ _ _ _ c.append_compressed_name.ensures)

pub returns : goal.returns
unfolding encode_header
returns g c =
    let x = header_item g.N.ToName.name c.args.self.now in
    composes_both _ _ (encode_name g.T.Composer.rule x.owner) (encode_octets (header_fields x.rtype x.class x.ttl x.rdlen)) _ _ _ _ (encode_name_grows g.T.Composer.rule x.owner)
    c.in_ok-append_compressed_name.ensures.ok
    (appends_compose _ _ _ _ _ _ (rw c.field_octets.ensures at c.append_slice.ensures))
