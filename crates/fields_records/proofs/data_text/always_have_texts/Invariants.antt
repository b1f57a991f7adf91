use Rattle.std.proofs.Common.{◌≡◌, true, take}
use Rattle.std.specs.List.{list_all}
use Rattle.fields_records.specs.FieldTexts.{always_has_text}
use Rattle.fields_records.proofs.data_text.always_have_texts.Given as goal

abbrev pub invariant-loop-field : goal.invariant-loop-field
invariant-loop-field l = list_all (λ field. always_has_text field.1) (take l.field-index l.fields) ≡ true
