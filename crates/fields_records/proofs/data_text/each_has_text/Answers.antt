use Rattle.std.proofs.Common.{◌≡◌, ◌∷◌, ◌∙◌, true, is_some, sym, ap, rules}
use Rattle.fields_table.specs.FieldParts.{fields_left, named_part}
use Rattle.fields_table.specs.Values.{FieldValue, part_value}
use Rattle.fields_records.proofs.FieldsLemmas.{first_has_text}
use Rattle.fields_records.specs.FieldTexts.{value_text}
use Rattle.fields_records.proofs.data_text.each_has_text.Goals as goal

pub loop-field-preserved : goal.loop-field-preserved
loop-field-preserved c =
    let item = named_part c.in-Some.field in
    let old = fields_left c.loop-field.field-iterator in
    let rest = fields_left c.next.new.self in
    let left : old ≡ item ∷ rest = search rules in
    let yes : c.has_text.result ≡ true = search rules in
    let some : is_some (value_text item.kind (part_value item.kind item.part)) ≡ true =
    sym (c.has_text.ensures ∙ ap (λ (v : FieldValue). is_some (value_text c.in-Some.field.kind v)) c.value.ensures) ∙ yes in
    record { can = tt; finite = tt; same = c.loop-field.invariant.same ∙ first_has_text old item rest left some }
