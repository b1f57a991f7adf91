use Rattle.fields_table.specs.FieldParts.{fields_left}
use Rattle.dnsm_read.proofs.FieldWalks.{Walked}
use Rattle.dnsm_read.proofs.field_offsets.field_at.Given as goal

abbrev pub invariant-loop-field : goal.invariant-loop-field
invariant-loop-field l = record {
  can : goal.iterator-loop-field.can_next l.field-iterator;
  finite : goal.iterator-loop-field.is_finite l.field-iterator;
  walked : Walked l.octets (fields_left l.fn.fields) (fields_left l.field-iterator) l.fn.start l.place l.left l.fn.index;
}
