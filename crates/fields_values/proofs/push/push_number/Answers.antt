use Rattle.std.proofs.Common.{refl}
use Rattle.fields_text.specs.Base32Words.{last_octets}
use Rattle.fields_values.specs.NewValues.{IsEncodedAs}
use Rattle.fields_values.specs.declared.form.Form.TheVariants as forms
use Rattle.fields_values.specs.declared.new_value.NewValue.TheVariants as values
use Rattle.fields_values.proofs.AppendLemmas.{appends_octets, octets_appended, of_kind}
use Rattle.fields_values.proofs.push.push_number.Goals as goal

pub returns-else-not-fits : goal.returns-else-not-fits
returns-else-not-fits c =
    let value = values.Number c.args.number in
    let form = forms.Number c.in-Number.size in
    of_kind c.args.kind c.value_form.result form value value c.args.octets.now.items c.push_big_endian.new.octets.items c.push_big_endian.result refl c.in-Number.is c.value_form.ensures
    (octets_appended c.args.kind form value refl (λ part is. is) (λ octets is. (octets, refl, is)) c.args.octets.now.items c.push_big_endian.new.octets.items c.push_big_endian.result
    (appends_octets (IsEncodedAs c.args.kind form value) (last_octets c.in-Number.size c.args.number) c.args.octets.now.items c.push_big_endian.new.octets.items
    c.push_big_endian.result (c.fits.ensures.0 c.if-not-fits.false, refl) c.push_big_endian.ensures.ok c.push_big_endian.ensures.err))
