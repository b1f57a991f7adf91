use Rattle.std.proofs.Common.{Err, ap, ◌∙◌}
use Rattle.std.proofs.lemmas.Result.{err_from_is_err_and}
use Rattle.dns_wire.specs.Parts.{encode_parts}
use Rattle.dns_wire.specs.Encoders.{encode_octets, both, with_length, encode_name}
use Rattle.dns_wire.proofs.theory.EncodedNames.{encode_name_grows, encode_octets_grows}
use Rattle.dns_wire.proofs.theory.EncoderLaws.{appends_compose, composes_both, composes_first}
use Rattle.dns_item.specs.Items.{encode_record, record_fields}
use Rattle.dns_item.specs.Record.{record_item}
use Rattle.dns_item.proofs.FlatRecords.{composes_at_once}
use Rattle.dns_item.proofs.record.Record.compose.Goals as goal

pub returns-in_err-append_compressed_name-clause-composes : goal.returns-in_err-append_compressed_name-clause-composes
unfolding encode_record
returns-in_err-append_compressed_name-clause-composes g c =
    let p = err_from_is_err_and c.from_residual.result c.from_residual.ensures.1 in
    let x = record_item g.N.ToName.name g.D.RecordData.rtype_of g.D.RecordData.parts c.args.self.now in
    composes_first _ _ _ (both (encode_octets (record_fields x)) (with_length (encode_parts g.T.Composer.rule x.parts))) _ _ c.append_compressed_name.result c.from_residual.result
    c.in_err-append_compressed_name.field-0.0 c.in_err-append_compressed_name.was (p.1 ∙ ap Err p.2)
    (appends_compose _ _ _ _ _ _ c.append_compressed_name.ensures)

pub returns-in_err-append_slice-clause-composes : goal.returns-in_err-append_slice-clause-composes
unfolding encode_record
returns-in_err-append_slice-clause-composes g c =
    let p = err_from_is_err_and c.from_residual-in_err-append_slice.result c.from_residual-in_err-append_slice.ensures.1 in
    let x = record_item g.N.ToName.name g.D.RecordData.rtype_of g.D.RecordData.parts c.args.self.now in
    let rest = with_length (encode_parts g.T.Composer.rule x.parts) in
    composes_both _ _ (encode_name g.T.Composer.rule x.owner) (both (encode_octets (record_fields x)) rest) _ _ _ _ (encode_name_grows g.T.Composer.rule x.owner)
    c.in_ok-append_compressed_name.ensures.ok
    (composes_first _ _ (encode_octets (record_fields x)) rest _ _ c.append_slice.result c.from_residual-in_err-append_slice.result
    c.in_err-append_slice.field-0.0 c.in_err-append_slice.was (p.1 ∙ ap Err p.2)
    (appends_compose _ _ _ _ _ _ (rw (c.field_octets-fields.ensures, c.rtype.ensures, c.class.ensures, c.ttl.ensures) at c.append_slice.ensures)))

pub returns-clause-composes : goal.returns-clause-composes
unfolding encode_record
returns-clause-composes g c =
    let x = record_item g.N.ToName.name g.D.RecordData.rtype_of g.D.RecordData.parts c.args.self.now in
    let rest = with_length (encode_parts g.T.Composer.rule x.parts) in
    composes_both _ _ (encode_name g.T.Composer.rule x.owner) (both (encode_octets (record_fields x)) rest) _ _ _ _ (encode_name_grows g.T.Composer.rule x.owner)
    c.in_ok-append_compressed_name.ensures.ok
    (composes_both _ _ (encode_octets (record_fields x)) rest _ _ _ _ (encode_octets_grows (record_fields x))
    (rw (c.field_octets-fields.ensures, c.rtype.ensures, c.class.ensures, c.ttl.ensures) at c.in_ok-append_slice.ensures.ok)
    c.compose_len_rdata.ensures.composes)

pub returns-then-octets-le-MOST_AT_ONCE-clause-composes : goal.returns-then-octets-le-MOST_AT_ONCE-clause-composes
unfolding encode_record
returns-then-octets-le-MOST_AT_ONCE-clause-composes g c =
    let x = record_item g.N.ToName.name g.D.RecordData.rtype_of g.D.RecordData.parts c.args.self.now in
    let rest = with_length (encode_parts g.T.Composer.rule x.parts) in
    let parts = rw c.in-Some.is at c.flat_rdata.ensures in
    composes_both _ _ (encode_name g.T.Composer.rule x.owner) (both (encode_octets (record_fields x)) rest) _ _ _ _ (encode_name_grows g.T.Composer.rule x.owner)
    c.in_ok-append_compressed_name.ensures.ok
    (composes_at_once _ _ g.T.Composer.rule (record_fields x) c.in-Some.octets.now x.parts _ _ _ parts
    (rw (c.field_octets-fields.ensures, c.rtype.ensures, c.class.ensures, c.ttl.ensures) at c.append_at_once.ensures))
