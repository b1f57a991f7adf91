use Rattle.fields_table.specs.FieldOrders.{parts_left}
use Rattle.fields_table.proofs.ComparedOctets.{Compared}
use Rattle.fields_table.proofs.uncompressed.are_uncompressed.Given as goal

abbrev pub invariant-loop-field : goal.invariant-loop-field
invariant-loop-field l = record {
  can : goal.iterator-loop-field.can_next l.field-iterator;
  finite : goal.iterator-loop-field.is_finite l.field-iterator;
  compared : Compared (parts_left l.fn.fields) (parts_left l.field-iterator) l.fn.octets l.left;
}
