use Rattle.fields_table.specs.FieldParts.{fields_left}
use Rattle.fields_records.specs.DataTexts.{data_fields}
use Rattle.dnsm_read.proofs.OctetWalks.{Written}
use Rattle.dnsm_read.proofs.data_octets.write_fields.Given as goal

abbrev pub invariant-loop-field : goal.invariant-loop-field
invariant-loop-field l = record {
  can : goal.iterator-loop-field.can_next l.field-iterator;
  finite : goal.iterator-loop-field.is_finite l.field-iterator;
  written : Written (data_fields l.fn.«data») (fields_left l.field-iterator) l.out l.end;
}
