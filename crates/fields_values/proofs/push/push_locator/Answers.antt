use Rattle.std.proofs.Common.{refl}
use Rattle.fields_values.specs.declared.form.Form.TheVariants as forms
use Rattle.fields_values.specs.declared.new_value.NewValue.TheVariants as values
use Rattle.fields_values.proofs.AppendLemmas.{octets_appended, of_kind}
use Rattle.fields_values.proofs.push.push_locator.Goals as goal

pub returns-in-Locator64 : goal.returns-in-Locator64
returns-in-Locator64 c =
    let value = values.Locator64 c.args.locator.now in
    let form = forms.Locator64 in
    of_kind c.args.kind c.value_form.result form value value c.args.octets.now.items c.push_address.new.octets.items c.push_address.result refl c.in-Locator64.is c.value_form.ensures
    (octets_appended c.args.kind form value refl (λ part is. is) (λ octets is. (octets, refl, is)) c.args.octets.now.items c.push_address.new.octets.items c.push_address.result
    (c.push_address.ensures))
