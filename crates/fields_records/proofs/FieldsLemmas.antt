-- The texts of fields.
use Rattle.std.proofs.Common.{◌≡◌, ◌∙◌, ℕ, List, [], ◌∷◌, true, ap, sym, refl, codes, is_some}
use Rattle.fields_table.specs.FieldParts.{NamedPart}
use Rattle.fields_table.specs.Values.{part_value}
use Rattle.fields_records.specs.FieldTexts.{field_text, fields_text, space_before, value_text}
use Rattle.fields_lists.proofs.theory.SpacedIfAll.{after_some, same_after}
use Rattle.fields_text.proofs.theory.Options.{some_after}

-- whether fields have texts, whatever the separator before them
pub any_separator : (s t : List ℕ) (fields : List NamedPart) → is_some (fields_text s fields) ≡ is_some (fields_text t fields)
any_separator s t [] = refl
any_separator s t (field ∷ fields) =
    let text = value_text field.kind (part_value field.kind field.part) in
    same_after (field_text s field) (field_text t field) (fields_text (codes " ") fields)
    (some_after (space_before field.kind s) text ∙ sym (some_after (space_before field.kind t) text))

-- the first field has a text
pub first_has_text : (fields : List NamedPart) (field : NamedPart) (after : List NamedPart) → fields ≡ field ∷ after
    → is_some (value_text field.kind (part_value field.kind field.part)) ≡ true → is_some (fields_text [] fields) ≡ is_some (fields_text [] after)
first_has_text fields field after e some =
    ap (λ (l : List NamedPart). is_some (fields_text [] l)) e
    ∙ after_some (field_text [] field) (fields_text (codes " ") after) (some_after (space_before field.kind []) (value_text field.kind (part_value field.kind field.part)) ∙ some)
    ∙ any_separator (codes " ") [] after
