use Rattle.std.proofs.Common.{[]}
use Rattle.fields_table.specs.FieldParts.{fields_left}
use Rattle.fields_text.proofs.theory.Printing.{PrintingIfAll}
use Rattle.fields_records.specs.DataTexts.{data_fields}
use Rattle.fields_records.specs.FieldTexts.{fields_text}
use Rattle.fields_records.proofs.data_text.write_fields.Given as goal
use denote.Shadow.{shadow}
use denote.Text.{Utf8}

abbrev pub invariant-loop-field : goal.invariant-loop-field
invariant-loop-field g l = record {
  can : (goal.iterator-loop-field g).can_next l.field-iterator;
  finite : (goal.iterator-loop-field g).is_finite l.field-iterator;
  utf8 : shadow (Utf8 l.separator);
  printing : PrintingIfAll g.W.TextWriter.takes l.fn.f l.f (fields_text l.separator (fields_left l.field-iterator)) (fields_text [] (data_fields l.fn.«data»));
}
