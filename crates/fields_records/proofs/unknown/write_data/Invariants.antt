use Rattle.std.specs.List.{flat_map}
use Rattle.dns_data.specs.Printing.{hex_octet}
use Rattle.fields_table.specs.FieldParts.{fields_left}
use Rattle.fields_text.proofs.theory.Printing.{Printing}
use Rattle.fields_records.specs.DataTexts.{data_fields}
use Rattle.fields_records.specs.FieldTexts.{fields_octets}
use Rattle.fields_records.proofs.unknown.write_data.Given as goal

abbrev pub invariant-loop-field : goal.invariant-loop-field
invariant-loop-field g l = record {
  can : (goal.iterator-loop-field g).can_next l.field-iterator;
  finite : (goal.iterator-loop-field g).is_finite l.field-iterator;
  printing : Printing g.W.TextWriter.takes l.fn.f l.f (flat_map hex_octet (fields_octets (fields_left l.field-iterator))) (flat_map hex_octet (fields_octets (data_fields l.fn.«data»)));
}
