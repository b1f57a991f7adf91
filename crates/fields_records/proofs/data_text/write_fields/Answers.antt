use Rattle.std.proofs.Common.{◌≡◌, ◌∷◌, [], List, ap, codes, rules}
use Rattle.fields_table.specs.FieldParts.{NamedPart, fields_left, named_part}
use Rattle.fields_text.proofs.theory.Printing.{none_printed_if, word_printed_if}
use Rattle.fields_records.specs.DataTexts.{data_fields}
use Rattle.fields_records.specs.FieldTexts.{field_text, fields_text}
use Rattle.fields_records.proofs.data_text.write_fields.Goals as goal

pub loop-field-init : goal.loop-field-init
loop-field-init g c =
    let left : fields_left c.into_iter-field-iterator.result ≡ data_fields c.args.«data».now = search rules in
    record { can = tt; finite = tt; utf8 = search rules; printing = none_printed_if _ _ _ _ (ap (λ (items : List NamedPart). fields_text [] items) left) }

pub loop-field-preserved : goal.loop-field-preserved
loop-field-preserved g c =
    let sep = c.loop-field.separator.now in
    let item = named_part c.in-Some.field in
    let old = fields_left c.loop-field.field-iterator in
    let rest = fields_left c.next.new.self in
    let left : old ≡ item ∷ rest = search rules in
    record {
      can = tt;
      finite = tt;
      utf8 = search rules;
      printing =
          word_printed_if g.W.TextWriter.takes c.args.f.now c.loop-field.f c.write_field.new.f c.write_field.result (fields_text sep old) (field_text sep item) (fields_text (codes " ") rest)
          (fields_text [] (data_fields c.args.«data».now)) c.loop-field.invariant.printing c.write_field.ensures.text (search rules) (ap (λ (items : List NamedPart). fields_text sep items) left);
    }
