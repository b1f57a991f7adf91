use Rattle.std.proofs.Common.{refl}
use Rattle.fields_values.specs.declared.form.Form.TheVariants as forms
use Rattle.fields_values.specs.declared.new_value.NewValue.TheVariants as values
use Rattle.fields_values.proofs.AppendLemmas.{octets_appended, of_kind}
use Rattle.fields_values.proofs.push.push_address_prefixes.Goals as goal

pub returns-in-Prefixes : goal.returns-in-Prefixes
returns-in-Prefixes c =
    let value = values.Prefixes c.args.prefixes in
    let form = forms.Prefixes in
    of_kind c.args.kind c.value_form.result form value value c.args.octets.now.items c.push_prefixes.new.octets.items c.push_prefixes.result refl c.in-Prefixes.is c.value_form.ensures
    (octets_appended c.args.kind form value refl (λ part is. is) (λ octets is. (octets, refl, is)) c.args.octets.now.items c.push_prefixes.new.octets.items c.push_prefixes.result
    (c.push_prefixes.ensures))
