use Rattle.std.proofs.Common.{refl, ◌∙◌, ap, arith}
use Rattle.fields_text.specs.Base32Words.{last_octets}
use Rattle.fields_values.specs.NewValues.{IsEncodedAs}
use Rattle.fields_values.specs.declared.form.Form.TheVariants as forms
use Rattle.fields_values.specs.declared.new_value.NewValue.TheVariants as values
use Rattle.fields_values.proofs.AppendLemmas.{appends_octets, octets_appended, of_kind}
use Rattle.fields_values.proofs.push.push_rtype.Goals as goal

pub returns-in-RecordType : goal.returns-in-RecordType
returns-in-RecordType c =
    let value = values.RecordType c.args.rtype in
    let form = forms.RecordType in
    of_kind c.args.kind c.value_form.result form value value c.args.octets.now.items c.push_big_endian.new.octets.items c.push_big_endian.result refl c.in-RecordType.is c.value_form.ensures
    (octets_appended c.args.kind form value refl (λ part is. is) (λ octets is. (octets, refl, is)) c.args.octets.now.items c.push_big_endian.new.octets.items c.push_big_endian.result
    (appends_octets (IsEncodedAs c.args.kind form value) (last_octets 2 c.from.result) c.args.octets.now.items c.push_big_endian.new.octets.items
    c.push_big_endian.result (omega (arith, c.to_int.type_inv, c.to_int.ensures), ap (λ n. last_octets 2 n) (c.from.ensures ∙ c.to_int.ensures))
    c.push_big_endian.ensures.ok c.push_big_endian.ensures.err))
