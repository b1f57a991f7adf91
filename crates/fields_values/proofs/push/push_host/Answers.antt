use Rattle.std.proofs.Common.{refl}
use Rattle.fields_values.specs.declared.form.Form.TheVariants as forms
use Rattle.fields_values.specs.declared.new_value.NewValue.TheVariants as values
use Rattle.fields_values.proofs.AppendLemmas.{octets_appended, of_kind}
use Rattle.fields_values.proofs.push.push_host.Goals as goal

pub returns-in-Identity : goal.returns-in-Identity
returns-in-Identity c =
    let value = values.HostIdentity c.args.value.now in
    let form = forms.Identity in
    of_kind c.args.kind c.value_form.result form value value c.args.octets.now.items c.push_host_identity.new.octets.items c.push_host_identity.result refl c.in-Identity.is c.value_form.ensures
    (octets_appended c.args.kind form value refl (λ part is. is) (λ octets is. (octets, refl, is)) c.args.octets.now.items c.push_host_identity.new.octets.items c.push_host_identity.result
    (c.push_host_identity.ensures))
