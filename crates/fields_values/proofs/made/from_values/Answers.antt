use Rattle.std.proofs.Common.{◌∙◌, ◌≤◌, ◌<◌, ap, length, arith}
use Rattle.fields_table.specs.Layouts.{most}
use Rattle.fields_table.specs.Table.{definitions_of}
use Rattle.fields_values.proofs.MadeLemmas.{error_of, have_values, short, there, too_long, whole_octets}
use Rattle.fields_values.proofs.made.from_values.Goals as goal

pub returns-then-len-gt-MAX_OCTETS : goal.returns-then-len-gt-MAX_OCTETS
returns-then-len-gt-MAX_OCTETS c =
    let many : most < length c.push_values.new.octets.items = omega (arith, c.len.ensures, c.if-len-gt-MAX_OCTETS.true, c.push_values.new.octets.ok.0) in
    too_long c.made_parts_read_back.ensures c.rest_fields_are_last.ensures c.args.rtype c.args.values.now c.push_values.new.octets.items
    (whole_octets c.args.rtype c.fields_of-fields.result.now c.args.values.now c.new-octets.result.items c.push_values.new.octets.items
    (c.fields_of-fields.ensures ∙ ap definitions_of c.to_int.ensures) c.new-octets.ensures.items c.in_default.ensures) many

pub owned_data-requires-clause-encoded : goal.owned_data-requires-clause-encoded
owned_data-requires-clause-encoded c =
    there c.made_parts_read_back.ensures c.rest_fields_are_last.ensures c.args.rtype c.args.values.now c.push_values.new.octets.items
    (whole_octets c.args.rtype c.fields_of-fields.result.now c.args.values.now c.new-octets.result.items c.push_values.new.octets.items
    (c.fields_of-fields.ensures ∙ ap definitions_of c.to_int.ensures) c.new-octets.ensures.items c.in_default.ensures)

pub owned_data-requires-clause-short : goal.owned_data-requires-clause-short
owned_data-requires-clause-short c =
    let few : length c.push_values.new.octets.items ≤ most = omega (arith, c.len.ensures, c.if-len-gt-MAX_OCTETS.false, c.push_values.new.octets.ok.0) in
    short c.made_parts_read_back.ensures c.rest_fields_are_last.ensures c.args.rtype c.args.values.now c.push_values.new.octets.items
    (whole_octets c.args.rtype c.fields_of-fields.result.now c.args.values.now c.new-octets.result.items c.push_values.new.octets.items
    (c.fields_of-fields.ensures ∙ ap definitions_of c.to_int.ensures) c.new-octets.ensures.items c.in_default.ensures) few

pub returns : goal.returns
returns c = (
  c.owned_data.ensures.rtype,
  have_values c.made_parts_read_back.ensures c.rest_fields_are_last.ensures c.args.rtype c.args.values.now c.push_values.new.octets.items
      (whole_octets c.args.rtype c.fields_of-fields.result.now c.args.values.now c.new-octets.result.items c.push_values.new.octets.items
      (c.fields_of-fields.ensures ∙ ap definitions_of c.to_int.ensures) c.new-octets.ensures.items c.in_default.ensures) _ c.owned_data.ensures.parts,
)

pub returns-in-Err : goal.returns-in-Err
returns-in-Err c =
    error_of c.args.rtype c.fields_of-fields.result.now c.args.values.now c.in-Err.error (c.fields_of-fields.ensures ∙ ap definitions_of c.to_int.ensures) c.if-fields-values.false c.in-Err.ensures
