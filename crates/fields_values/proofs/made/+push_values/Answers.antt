use Rattle.std.proofs.Common.{◌+◌, ◌-◌, List, drop, length, subst, take}
use Rattle.std.proofs.lemmas.List.{take_rest}
use Rattle.fields_table.specs.Table.{Field, kinds}
use Rattle.fields_values.specs.Appending.{AppendsValues}
use Rattle.fields_values.specs.declared.new_value.NewValue.{NewValue}
use Rattle.fields_values.proofs.AppendLemmas.{values_more}
use Rattle.fields_values.proofs.MadeLemmas.{first_refused}
use Rattle.fields_values.proofs.made.+push_values.Goals as goal

pub returns-in-Ok : goal.returns-in-Ok
returns-in-Ok t c =
    let fields = c.args.fields.now in
    let values = c.args.values.now in
    let others =
    subst (λ (fs : List Field). AppendsValues (c.args.index + 1) (kinds fs) (drop 1 values) c.push_value.new.octets.items c.push_values.new.octets.items c.push_values.result) (take_rest fields 1)
    (subst (λ (vs : List NewValue). AppendsValues (c.args.index + 1) (kinds (take (length fields - 1) (drop 1 fields))) vs c.push_value.new.octets.items
    c.push_values.new.octets.items c.push_values.result) (take_rest values 1)
    c.push_values.ensures) in
    values_more c.args.index fields _ values c.value-item.result c.args.octets.now.items c.push_value.new.octets.items c.push_values.new.octets.items
    c.in-Ok.field-0 c.push_values.result c.in-len1-up.len_at_least c.in-len1-up-values.len_at_least
    c.value-item.is c.in-Ok.ensures others

pub returns-in-Err : goal.returns-in-Err
returns-in-Err t c =
    rw c.error_at.ensures
    (first_refused c.args.index c.args.fields.now _ c.args.values.now c.value-item.result c.in-Err.refusal c.in-len1-up.len_at_least c.in-len1-up-values.len_at_least c.value-item.is c.in-Err.ensures)
