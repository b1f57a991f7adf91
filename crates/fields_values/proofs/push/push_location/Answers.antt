use Rattle.std.proofs.Common.{◌≡◌, ◌++◌, List, ℕ, refl, subst}
use Rattle.std.specs.Prelude.{OnOk}
use Rattle.fields_forms.specs.LocationItems.{location_item}
use Rattle.fields_forms.specs.LocationWords.{location_octets}
use Rattle.fields_values.specs.NewValues.{IsEncodedAs}
use Rattle.fields_values.specs.declared.form.Form.TheVariants as forms
use Rattle.fields_values.specs.declared.new_value.NewValue.TheVariants as values
use Rattle.fields_values.proofs.AppendLemmas.{appends_octets, octets_appended, of_kind}
use Rattle.fields_values.proofs.push.push_location.Goals as goal

pub returns-in-Location : goal.returns-in-Location
returns-in-Location c =
    let value = values.Location c.args.location.now in
    let form = forms.Location in
    let old = c.args.octets.now.items in
    let new = c.push.new.octets.items in
    of_kind c.args.kind c.value_form.result form value value old new c.push.result refl c.in-Location.is c.value_form.ensures
    (octets_appended c.args.kind form value refl (λ part is. is) (λ octets is. (octets, refl, is)) old new c.push.result
    (appends_octets (IsEncodedAs c.args.kind form value) (location_octets (location_item c.args.location.now)) old new c.push.result refl
    (subst (λ (more : List ℕ). OnOk c.push.result (new ≡ old ++ more)) c.octets.ensures c.push.ensures.ok) c.push.ensures.err))
