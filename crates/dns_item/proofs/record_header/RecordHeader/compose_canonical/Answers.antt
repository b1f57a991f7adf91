use Rattle.std.proofs.Common.{Err, ap, ◌∙◌}
use Rattle.std.proofs.lemmas.Result.{err_from_is_err_and}
use Rattle.dns_wire.specs.Encoders.{encode_octets}
use Rattle.dns_wire.proofs.theory.EncodedNames.{encode_octets_grows}
use Rattle.dns_wire.proofs.theory.EncoderLaws.{appends_compose, composes_both, composes_first}
use Rattle.dns_item.specs.RecordHeader.{header_item, header_fields}
use Rattle.dns_item.specs.Canonical.{encode_canonical_name, encode_canonical_header}
use Rattle.dns_item.proofs.record_header.RecordHeader.compose_canonical.Goals as goal

pub returns-in_err-compose_canonical : goal.returns-in_err-compose_canonical
unfolding encode_canonical_header
returns-in_err-compose_canonical g c =
    let p = err_from_is_err_and c.from_residual.result c.from_residual.ensures.1 in
    let x = header_item g.N.ToName.name c.args.self.now in
    composes_first _ _ _ (encode_octets (header_fields x.rtype x.class x.ttl x.rdlen)) _ _ c.compose_canonical.result c.from_residual.result
    c.in_err-compose_canonical.field-0.0 c.in_err-compose_canonical.was (p.1 ∙ ap Err p.2)
    (appends_compose _ _ _ _ _ _ (rw c.owner-name.ensures at c.compose_canonical.ensures))

pub returns : goal.returns
unfolding encode_canonical_header
returns g c =
    let x = header_item g.N.ToName.name c.args.self.now in
    composes_both _ _ (encode_canonical_name x.owner) (encode_octets (header_fields x.rtype x.class x.ttl x.rdlen)) _ _ _ _ (encode_octets_grows _)
    (rw c.owner-name.ensures at c.in_ok-compose_canonical.ensures.ok)
    (appends_compose _ _ _ _ _ _ (rw c.field_octets-octets.ensures at c.append_slice.ensures))
