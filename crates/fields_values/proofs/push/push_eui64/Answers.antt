use Rattle.std.proofs.Common.{refl}
use Rattle.fields_values.specs.declared.form.Form.TheVariants as forms
use Rattle.fields_values.specs.declared.new_value.NewValue.TheVariants as values
use Rattle.fields_values.proofs.AppendLemmas.{octets_appended, of_kind}
use Rattle.fields_values.proofs.push.push_eui64.Goals as goal

pub returns-in-Eui64 : goal.returns-in-Eui64
returns-in-Eui64 c =
    let value = values.Eui64 c.args.address.now in
    let form = forms.Eui64 in
    of_kind c.args.kind c.value_form.result form value value c.args.octets.now.items c.push_address.new.octets.items c.push_address.result refl c.in-Eui64.is c.value_form.ensures
    (octets_appended c.args.kind form value refl (λ part is. is) (λ octets is. (octets, refl, is)) c.args.octets.now.items c.push_address.new.octets.items c.push_address.result
    (c.push_address.ensures))
