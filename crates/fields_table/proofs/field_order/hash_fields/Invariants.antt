use Rattle.std.proofs.Common.{◌≡◌}
use Rattle.std.specs.Prelude.{fold}
use Rattle.std.specs.List.{flat_map}
use Rattle.fields_table.specs.DataOrders.{part_hash_input}
use Rattle.fields_table.specs.FieldOrders.{parts_left}
use Rattle.fields_table.proofs.field_order.hash_fields.Given as goal

abbrev pub invariant-loop-field : goal.invariant-loop-field
invariant-loop-field g l =
    (goal.iterator-loop-field g).can_next l.field-iterator ×
    (goal.iterator-loop-field g).is_finite l.field-iterator ×
    (fold g.H.Hasher.write l.state (flat_map part_hash_input (parts_left l.field-iterator))
    ≡ fold g.H.Hasher.write l.fn.state (flat_map part_hash_input (parts_left l.fn.fields)))
