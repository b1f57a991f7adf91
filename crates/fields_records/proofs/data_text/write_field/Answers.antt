use Rattle.std.proofs.Common.{rules, subst}
use Rattle.std.specs.Prelude.{IfSome, OnErr, OnSome}
use Rattle.fields_table.specs.EncodedFields.{part_of}
use Rattle.fields_table.specs.Values.{FieldValue, part_value}
use Rattle.dns_print.specs.Printing.{PrintsOnOk}
use Rattle.fields_text.proofs.theory.Printing.{fails_after, put_two_if}
use Rattle.fields_records.specs.FieldTexts.{space_before, value_text}
use Rattle.fields_records.proofs.data_text.write_field.Goals as goal

pub returns-clause-text : goal.returns-clause-text
returns-clause-text g c =
    let takes = g.W.TextWriter.takes in
    let field = c.args.field.now in
    let r = c.write_text.result in
    let space = c.write_space.new.f in
    let end = c.write_text.new.f in
    let word : IfSome (value_text field.kind (part_value field.kind (part_of field.encoded))) (λ text. PrintsOnOk takes space r text end) =
    subst (λ (v : FieldValue). IfSome (value_text field.kind v) (λ text. PrintsOnOk takes space r text end)) c.value.ensures c.write_text.ensures.text in
    put_two_if takes c.args.f.now space end r (space_before field.kind c.args.separator.now)
    (value_text field.kind (part_value field.kind (part_of field.encoded))) (c.write_space.ensures.text (search rules)) word

pub returns-clause-err : goal.returns-clause-err
returns-clause-err g c =
    let field = c.args.field.now in
    let r = c.write_text.result in
    fails_after g.W.TextWriter.MayFail r (space_before field.kind c.args.separator.now) (value_text field.kind (part_value field.kind (part_of field.encoded)))
    (subst (λ (v : FieldValue). OnSome (value_text field.kind v) (OnErr r g.W.TextWriter.MayFail)) c.value.ensures c.write_text.ensures.err)
