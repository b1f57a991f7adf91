use Rattle.std.proofs.Common.{refl, ◌≢◌, []}
use Rattle.fields_values.specs.NewValues.{AreStringsIn}
use Rattle.fields_values.specs.declared.form.Form.TheVariants as forms
use Rattle.fields_values.specs.declared.new_value.NewValue.TheVariants as values
use Rattle.fields_values.proofs.AppendLemmas.{not_empty, octets_appended, of_kind, some_appended}
use Rattle.fields_values.proofs.push.push_some_strings.Goals as goal

pub returns-else-is_empty : goal.returns-else-is_empty
returns-else-is_empty c =
    let value = values.Strings c.args.strings in
    let form = forms.Strings in
    of_kind c.args.kind c.value_form.result form value value c.args.octets.now.items c.push_strings.new.octets.items c.push_strings.result refl c.in-Strings.is c.value_form.ensures
    (octets_appended c.args.kind form value refl (λ part is. is) (λ octets is. (octets, refl, is)) c.args.octets.now.items c.push_strings.new.octets.items c.push_strings.result
    (some_appended (AreStringsIn c.args.strings.now) (c.args.strings.now ≢ []) c.args.octets.now.items c.push_strings.new.octets.items c.push_strings.result
    (not_empty c.args.strings.now c.is_empty.result c.is_empty.ensures c.if-is_empty.false) c.push_strings.ensures))
