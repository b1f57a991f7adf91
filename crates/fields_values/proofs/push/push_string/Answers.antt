use Rattle.std.proofs.Common.{refl}
use Rattle.fields_values.specs.declared.form.Form.TheVariants as forms
use Rattle.fields_values.specs.declared.new_value.NewValue.TheVariants as values
use Rattle.fields_values.proofs.AppendLemmas.{octets_appended, of_kind}
use Rattle.fields_values.proofs.push.push_string.Goals as goal

pub returns-in-Counted : goal.returns-in-Counted
returns-in-Counted c =
    let value = values.String c.args.string in
    let form = forms.Counted in
    of_kind c.args.kind c.value_form.result form value value c.args.octets.now.items c.push_counted.new.octets.items c.push_counted.result refl c.in-Counted.is c.value_form.ensures
    (octets_appended c.args.kind form value refl (λ part is. is) (λ octets is. (octets, refl, is)) c.args.octets.now.items c.push_counted.new.octets.items c.push_counted.result
    (c.push_counted.ensures))
