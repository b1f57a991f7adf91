use Rattle.std.proofs.Common.{◌≡◌, is_some, []}
use Rattle.fields_table.specs.FieldParts.{fields_left}
use Rattle.fields_records.specs.DataTexts.{data_fields}
use Rattle.fields_records.specs.FieldTexts.{fields_text}
use Rattle.fields_records.proofs.data_text.each_has_text.Given as goal

abbrev pub invariant-loop-field : goal.invariant-loop-field
invariant-loop-field l = record {
  can : goal.iterator-loop-field.can_next l.field-iterator;
  finite : goal.iterator-loop-field.is_finite l.field-iterator;
  same : is_some (fields_text [] (data_fields l.fn.«data»)) ≡ is_some (fields_text [] (fields_left l.field-iterator));
}
