use Rattle.std.proofs.Common.{refl}
use Rattle.fields_values.specs.declared.form.Form.TheVariants as forms
use Rattle.fields_values.specs.declared.new_value.NewValue.TheVariants as values
use Rattle.fields_values.proofs.AppendLemmas.{octets_appended, of_kind}
use Rattle.fields_values.proofs.push.push_service.Goals as goal

pub returns-in-Parameters : goal.returns-in-Parameters
returns-in-Parameters c =
    let value = values.Parameters c.args.parameters in
    let form = forms.Parameters in
    of_kind c.args.kind c.value_form.result form value value c.args.octets.now.items c.push_parameters.new.octets.items c.push_parameters.result refl c.in-Parameters.is c.value_form.ensures
    (octets_appended c.args.kind form value refl (λ part is. is) (λ octets is. (octets, refl, is)) c.args.octets.now.items c.push_parameters.new.octets.items c.push_parameters.result
    (c.push_parameters.ensures))
