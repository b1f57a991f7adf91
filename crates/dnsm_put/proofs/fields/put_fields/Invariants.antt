use Rattle.fields_table.specs.FieldOrders.{parts_left}
use Rattle.dnsm_put.proofs.FieldsWritten.{Fielded}
use Rattle.dnsm_put.proofs.fields.put_fields.Given as goal

abbrev pub invariant-loop-field : goal.invariant-loop-field
invariant-loop-field l = record {
  can : goal.iterator-loop-field.can_next l.field-iterator;
  finite : goal.iterator-loop-field.is_finite l.field-iterator;
  fielded : Fielded l.fn.out l.most l.top l.at (parts_left l.fn.fields) (parts_left l.field-iterator) l.out l.end;
}
