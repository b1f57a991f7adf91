use Rattle.std.proofs.Common.{◌≡◌, []}
use Rattle.fields_checks.specs.Checks.{field_values, last_number, last_octets, values_of}
use Rattle.fields_table.specs.FieldParts.{fields_left}
use Rattle.fields_checks.proofs.check.last_values.Given as goal

abbrev pub invariant-loop-field : goal.invariant-loop-field
invariant-loop-field l = record {
  can : goal.iterator-loop-field.can_next l.field-iterator;
  finite : goal.iterator-loop-field.is_finite l.field-iterator;
  number : last_number l.number (field_values (fields_left l.field-iterator)) ≡ last_number 0 (values_of l.fn.«data»);
  octets : last_octets l.octets (field_values (fields_left l.field-iterator)) ≡ last_octets [] (values_of l.fn.«data»);
}
