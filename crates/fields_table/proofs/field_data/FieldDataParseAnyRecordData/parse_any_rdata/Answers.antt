use Rattle.std.proofs.Common.{◌≡◌, ◌∙◌, ap, sym, subst}
use Rattle.dns_name.specs.Parsers.{seen, offset}
use Rattle.dns_data.specs.Layout.{DataAt}
use Rattle.fields_table.specs.FieldData.{parts_from, type_layout}
use Rattle.fields_table.specs.Table.{kinds, kinds_in, kinds_of, definitions_of}
use Rattle.fields_table.proofs.Skipped.{skipped_data}
use Rattle.fields_table.proofs.field_data.FieldDataParseAnyRecordData.parse_any_rdata.Goals as goal

pub invariant_of-data : goal.invariant_of-data
invariant_of-data c =
    let rtype = c.to_int-2.result in
    let e : kinds c.fields_of-fields.result.now ≡ kinds_of rtype = ap kinds_in c.fields_of-fields.ensures ∙ ap kinds_of (c.to_int.ensures ∙ sym c.to_int-2.ensures) in
    let d = skipped_data c.fields_of-fields.result.now (kinds_of rtype) e c.args.parser.now c.in_ok-skipped.skipped c.in_ok-skipped.ensures c.if-skipped-gt-MAX_OCTETS.false in
    record { defined = c.fields_of-fields.ensures ∙ ap definitions_of (c.to_int.ensures ∙ sym c.to_int-2.ensures); encoded = d.there; short = d.short }

pub returns : goal.returns
returns c =
    let old = c.args.parser.now in
    let rtype = c.to_int-2.result in
    let e : kinds c.fields_of-fields.result.now ≡ kinds_of rtype = ap kinds_in c.fields_of-fields.ensures ∙ ap kinds_of (c.to_int.ensures ∙ sym c.to_int-2.ensures) in
    let d = skipped_data c.fields_of-fields.result.now (kinds_of rtype) e old c.in_ok-skipped.skipped c.in_ok-skipped.ensures c.if-skipped-gt-MAX_OCTETS.false in (
      c.to_int-2.ensures,
      subst (λ r. DataAt (seen old) (type_layout r) (offset old) (offset c.in_ok-skipped.skipped.parser) (parts_from rtype old)) c.to_int-2.ensures d.encoded,
      d.moves,
    )
