use Rattle.std.proofs.Common.{refl}
use Rattle.fields_values.specs.declared.form.Form.TheVariants as forms
use Rattle.fields_values.specs.declared.new_value.NewValue.TheVariants as values
use Rattle.fields_values.proofs.AppendLemmas.{octets_appended, of_kind}
use Rattle.fields_values.proofs.push.push_gateway.Goals as goal

pub returns-in-Gateway : goal.returns-in-Gateway
returns-in-Gateway c =
    let value = values.GatewayAndKey c.args.value.now in
    let form = forms.Gateway in
    of_kind c.args.kind c.value_form.result form value value c.args.octets.now.items c.push_gateway_and_key.new.octets.items c.push_gateway_and_key.result refl c.in-Gateway.is c.value_form.ensures
    (octets_appended c.args.kind form value refl (λ part is. is) (λ octets is. (octets, refl, is)) c.args.octets.now.items c.push_gateway_and_key.new.octets.items c.push_gateway_and_key.result
    (c.push_gateway_and_key.ensures))
