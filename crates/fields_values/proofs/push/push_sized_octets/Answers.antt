use Rattle.std.proofs.Common.{refl}
use Rattle.fields_values.specs.declared.form.Form.TheVariants as forms
use Rattle.fields_values.specs.declared.new_value.NewValue.TheVariants as values
use Rattle.fields_values.proofs.AppendLemmas.{octets_appended, of_kind}
use Rattle.fields_values.proofs.push.push_sized_octets.Goals as goal

pub returns-in-Sized : goal.returns-in-Sized
returns-in-Sized c =
    let value = values.Sized c.args.more in
    let form = forms.Sized in
    of_kind c.args.kind c.value_form.result form value value c.args.octets.now.items c.push_sized.new.octets.items c.push_sized.result refl c.in-Sized.is c.value_form.ensures
    (octets_appended c.args.kind form value refl (λ part is. is) (λ octets is. (octets, refl, is)) c.args.octets.now.items c.push_sized.new.octets.items c.push_sized.result
    (c.push_sized.ensures))
