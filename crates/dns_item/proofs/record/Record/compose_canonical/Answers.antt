use Rattle.std.proofs.Common.{Err, ap, ◌∙◌}
use Rattle.std.proofs.lemmas.Result.{err_from_is_err_and}
use Rattle.dns_wire.specs.Parts.{encode_parts}
use Rattle.dns_wire.specs.Encoders.{encode_octets, both, with_length}
use Rattle.dns_wire.proofs.theory.EncodedNames.{encode_octets_grows}
use Rattle.dns_wire.proofs.theory.EncoderLaws.{appends_compose, composes_both, composes_first}
use Rattle.dns_data.specs.RecordData.{canonical}
use Rattle.dns_item.specs.Items.{record_fields}
use Rattle.dns_item.specs.Record.{record_item}
use Rattle.dns_item.specs.Canonical.{encode_canonical_name, encode_canonical_record}
use Rattle.dns_item.proofs.record.Record.compose_canonical.Goals as goal

pub returns-in_err-compose_canonical : goal.returns-in_err-compose_canonical
unfolding encode_canonical_record
returns-in_err-compose_canonical g c =
    let p = err_from_is_err_and c.from_residual.result c.from_residual.ensures.1 in
    let x = record_item g.N.ToName.name g.D.RecordData.rtype_of g.D.RecordData.parts c.args.self.now in
    composes_first _ _ _ (both (encode_octets (record_fields x)) (with_length (encode_parts g.T.Composer.rule (canonical x.parts)))) _ _ c.compose_canonical.result c.from_residual.result
    c.in_err-compose_canonical.field-0.0 c.in_err-compose_canonical.was (p.1 ∙ ap Err p.2)
    (appends_compose _ _ _ _ _ _ (rw c.owner.ensures at c.compose_canonical.ensures))

pub returns-in_err-append_slice : goal.returns-in_err-append_slice
unfolding encode_canonical_record
returns-in_err-append_slice g c =
    let p = err_from_is_err_and c.from_residual-in_err-append_slice.result c.from_residual-in_err-append_slice.ensures.1 in
    let x = record_item g.N.ToName.name g.D.RecordData.rtype_of g.D.RecordData.parts c.args.self.now in
    let rest = with_length (encode_parts g.T.Composer.rule (canonical x.parts)) in
    composes_both _ _ (encode_canonical_name x.owner) (both (encode_octets (record_fields x)) rest) _ _ _ _ (encode_octets_grows _)
    (rw c.owner.ensures at c.in_ok-compose_canonical.ensures.ok)
    (composes_first _ _ (encode_octets (record_fields x)) rest _ _ c.append_slice.result c.from_residual-in_err-append_slice.result
    c.in_err-append_slice.field-0.0 c.in_err-append_slice.was (p.1 ∙ ap Err p.2)
    (appends_compose _ _ _ _ _ _ (rw (c.field_octets-fields.ensures, c.rtype.ensures, c.class.ensures, c.ttl.ensures) at c.append_slice.ensures)))

pub returns : goal.returns
unfolding encode_canonical_record
returns g c =
    let x = record_item g.N.ToName.name g.D.RecordData.rtype_of g.D.RecordData.parts c.args.self.now in
    let rest = with_length (encode_parts g.T.Composer.rule (canonical x.parts)) in
    composes_both _ _ (encode_canonical_name x.owner) (both (encode_octets (record_fields x)) rest) _ _ _ _ (encode_octets_grows _)
    (rw c.owner.ensures at c.in_ok-compose_canonical.ensures.ok)
    (composes_both _ _ (encode_octets (record_fields x)) rest _ _ _ _ (encode_octets_grows (record_fields x))
    (rw (c.field_octets-fields.ensures, c.rtype.ensures, c.class.ensures, c.ttl.ensures) at c.in_ok-append_slice.ensures.ok)
    (rw c.data.ensures at c.compose_canonical_len_rdata.ensures))
