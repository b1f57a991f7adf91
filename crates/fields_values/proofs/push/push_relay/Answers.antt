use Rattle.std.proofs.Common.{refl}
use Rattle.fields_values.specs.declared.form.Form.TheVariants as forms
use Rattle.fields_values.specs.declared.new_value.NewValue.TheVariants as values
use Rattle.fields_values.proofs.AppendLemmas.{octets_appended, of_kind}
use Rattle.fields_values.proofs.push.push_relay.Goals as goal

pub returns-in-Relay : goal.returns-in-Relay
returns-in-Relay c =
    let value = values.Relay c.args.value.now in
    let form = forms.Relay in
    of_kind c.args.kind c.value_form.result form value value c.args.octets.now.items c.push_relay_octets.new.octets.items c.push_relay_octets.result refl c.in-Relay.is c.value_form.ensures
    (octets_appended c.args.kind form value refl (λ part is. is) (λ octets is. (octets, refl, is)) c.args.octets.now.items c.push_relay_octets.new.octets.items c.push_relay_octets.result
    (c.push_relay_octets.ensures))
