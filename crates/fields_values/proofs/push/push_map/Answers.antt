use Rattle.std.proofs.Common.{refl}
use Rattle.fields_values.specs.declared.form.Form.TheVariants as forms
use Rattle.fields_values.specs.declared.new_value.NewValue.TheVariants as values
use Rattle.fields_values.proofs.AppendLemmas.{map_appended, of_kind}
use Rattle.fields_values.proofs.push.push_map.Goals as goal

pub returns-in-Types : goal.returns-in-Types
returns-in-Types c =
    let value = values.Types c.args.types in
    let form = forms.Types in
    of_kind c.args.kind c.value_form.result form value value c.args.octets.now.items c.push_types.new.octets.items c.push_types.result refl c.in-Types.is c.value_form.ensures
    (map_appended c.args.kind c.args.types c.args.octets.now.items c.push_types.new.octets.items c.push_types.result c.push_types.ensures)
