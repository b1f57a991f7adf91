-- The words of printed fields. RFC 1035 section 5.1.
use Rattle.std.specs.Prelude.{◌≡◌, ◌⊎◌, ℕ, ◌<◌, ◌^◌, All, Some, None, List, [], ◌∷◌, ◌++◌, length}
use Rattle.hex.specs.Hex.{IsBytes}
use Rattle.dns_name.specs.Names.{IsName}
use Rattle.dns_wire.specs.Parts.{Part}
use Rattle.dns_wire.specs.Parts.Part.{Octets as OctetsPart, CompressibleName, UncompressedName as UncompressedPart}
use Rattle.fields_table.specs.FieldParts.{NamedPart}
use Rattle.fields_table.specs.Shapes.{shape_of}
use Rattle.fields_table.specs.Values.{part_value}
use Rattle.fields_table.specs.declared.shape.Shape.{Shape}
use Rattle.fields_table.specs.declared.shape.Shape.TheVariants.{Octets, Counted, Sized, Name, UncompressedName, Rest}
use Rattle.fields_table.specs.declared.field_data.FieldData.{FieldData}
use Rattle.fields_records.specs.DataTexts.{data_fields, data_line}
use Rattle.fields_records.specs.FieldTexts.{fields_octets, fields_text, value_text}
use Rattle.fields_text.specs.LineWords.{AreWordsOf}
use Rattle.fields_records.specs.ListLaws.{opaque_words}

-- the part is of the sort that this shape has: a name, or octets whose number prints as a word
abbrev pub IsPartOf : Shape → Part → Type 0
IsPartOf (Octets n) (OctetsPart octets) = IsBytes octets × (length octets ≡ n)
IsPartOf Counted (OctetsPart octets) = IsBytes octets × (length octets < 2 ^ 16)
IsPartOf Sized (OctetsPart octets) = IsBytes octets × (length octets < 2 ^ 32)
IsPartOf Rest (OctetsPart octets) = IsBytes octets × (length octets < 2 ^ 32)
IsPartOf Name (CompressibleName name) = IsName name
IsPartOf (UncompressedName pointers lowers) (UncompressedPart lowered name) = IsName name
IsPartOf shape part = ⊥

-- the part of each field is one of its kind
abbrev pub HaveParts : List NamedPart → Type 0
HaveParts fields = All (λ field. IsPartOf (shape_of field.kind) field.part) fields

-- the words of the text of a field
abbrev pub AreWordsOfField : NamedPart → List (List ℕ) → Type 0
AreWordsOfField field words = (text : List ℕ) × (value_text field.kind (part_value field.kind field.part) ≡ Some text) × AreWordsOf text words

-- the words of each field's text, one field after another
abbrev pub AreWordsOfFields : List NamedPart → List (List ℕ) → Type 0
AreWordsOfFields [] words = words ≡ []
AreWordsOfFields (field ∷ fields) words =
    (own : List (List ℕ)) × (after : List (List ℕ)) × (words ≡ own ++ after) × AreWordsOfField field own × AreWordsOfFields fields after

-- the words of RDATA: those of its fields; or those of its octets if a field has no presentation format
abbrev pub AreWordsOfData : List NamedPart → List (List ℕ) → Type 0
AreWordsOfData fields words = AreWordsOfFields fields words ⊎ ((fields_text [] fields ≡ None) × (words ≡ opaque_words (fields_octets fields)))

-- the text of fields that have a presentation format has the words of the fields
abbrev pub FieldsSplit : Type 0
FieldsSplit =
    (fields : List NamedPart) (text : List ℕ) → HaveParts fields → fields_text [] fields ≡ Some text
    → (words : List (List ℕ)) × AreWordsOfFields fields words × AreWordsOf text words

-- the text of RDATA has these words
abbrev pub DataSplits : Type 0
DataSplits =
    (fields : FieldData) → IsBytes (fields_octets (data_fields fields))
    → (words : List (List ℕ)) × AreWordsOfData (data_fields fields) words × AreWordsOf (data_line fields) words
