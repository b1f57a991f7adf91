use Rattle.std.proofs.Common.{◌∙◌, refl, sym}
use Rattle.fields_table.specs.Shapes.{shape_of}
use Rattle.dns_name.specs.ParsedName.{labels}
use Rattle.fields_values.specs.NewValues.{name_part}
use Rattle.fields_values.specs.declared.form.Form.TheVariants as forms
use Rattle.fields_values.specs.declared.new_value.NewValue.TheVariants as values
use Rattle.fields_values.proofs.AppendLemmas.{name_octets, of_kind, part_appended}
use Rattle.fields_values.proofs.push.push_name.Goals as goal

pub returns-in-Name : goal.returns-in-Name
returns-in-Name c =
    let name = c.args.name.now in
    let value = values.Name name in
    of_kind c.args.kind c.value_form.result forms.Name value value c.args.octets.now.items c.push.new.octets.items c.push.result refl c.in-Name.is c.value_form.ensures
    (part_appended c.args.kind forms.Name value (name_part (shape_of c.args.kind) (labels name)) c.args.octets.now.items c.as_slice.result.now c.push.new.octets.items c.push.result refl
    (name_octets (shape_of c.args.kind) (labels name) ∙ sym c.uncompressed.ensures ∙ sym c.as_slice.ensures.value) c.push.ensures.ok c.push.ensures.err)
