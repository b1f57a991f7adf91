-- The part of one field, and the words of its text.
use Rattle.std.specs.Prelude.{◌≡◌, ℕ, ◌<◌, ◌^◌, Some, List, [], ◌∷◌, length}
use Rattle.hex.specs.Hex.{IsBytes}
use Rattle.dns_data.specs.Layout.{IsLaidOut}
use Rattle.dns_data.specs.Layout.Layout.{End}
use Rattle.dns_wire.specs.Parts.{AreParts, Part}
use Rattle.fields_table.specs.Accepts.{accepts}
use Rattle.fields_table.specs.DataOrders.{part_octets}
use Rattle.fields_table.specs.Layouts.{field_layout}
use Rattle.fields_table.specs.Shapes.{shape_of}
use Rattle.fields_table.specs.Values.{part_value}
use Rattle.fields_table.specs.declared.kind.Kind.{Kind}
use Rattle.fields_records.specs.FieldTexts.{value_text}
use Rattle.fields_text.specs.LineWords.{AreWordsOf, texts}
use Rattle.fields_records.specs.FieldWords.{Words}

-- The part of one field.
abbrev pub IsFieldPart : Kind → Part → Type 0
IsFieldPart kind part = IsLaidOut (field_layout (shape_of kind) (accepts kind) End) (part ∷ []) × AreParts (part ∷ []) × IsBytes (part_octets part) × (length (part_octets part) < 2 ^ 16)

-- the words of the text of the part as a field of this kind
abbrev pub HasWords : Kind → Part → Words → Type 0
HasWords kind part own = (text : List ℕ) × (value_text kind (part_value kind part) ≡ Some text) × AreWordsOf text (texts own)
