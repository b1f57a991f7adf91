use Rattle.std.proofs.Common.{◌≡◌, ◌+◌, length}
use Rattle.fields_table.specs.FieldParts.{fields_left}
use Rattle.fields_records.specs.DataTexts.{data_fields}
use Rattle.fields_records.specs.FieldTexts.{fields_octets}
use Rattle.fields_records.proofs.unknown.data_size.Given as goal

abbrev pub invariant-loop-field : goal.invariant-loop-field
invariant-loop-field l = record {
  can : goal.iterator-loop-field.can_next l.field-iterator;
  finite : goal.iterator-loop-field.is_finite l.field-iterator;
  size : l.size + length (fields_octets (fields_left l.field-iterator)) ≡ length (fields_octets (data_fields l.fn.«data»));
}
