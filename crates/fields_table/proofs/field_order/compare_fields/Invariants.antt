use Rattle.std.proofs.Common.{◌≡◌}
use Rattle.std.specs.Cmp.Lexicographic.{slice_cmp}
use Rattle.fields_table.specs.FieldOrders.{field_order, parts_left}
use Rattle.fields_table.proofs.field_order.compare_fields.Given as goal

abbrev pub invariant-loop-field : goal.invariant-loop-field
invariant-loop-field l =
    (goal.iterator-loop-field).can_next l.field-iterator ×
    (goal.iterator-loop-field).is_finite l.field-iterator ×
    (slice_cmp (field_order l.canonical) (parts_left l.field-iterator) (parts_left l.others)
    ≡ slice_cmp (field_order l.canonical) (parts_left l.fn.fields) (parts_left l.fn.others))
