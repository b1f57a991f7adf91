-- That the table of names in RDATA is that of the fields of the record types.
use Rattle.std.specs.Prelude.{◌≡◌, ◌≢◌, ◌==◌, ℕ, ◌+◌, List, [], ◌∷◌, Bool, true, All, nat_eq, suc, IsTrue}
use Rattle.std.specs.List.{list_all, list_any}
use Rattle.fields_table.specs.RecordTypes.{Definition, TypeDefinition, record_types}
use Rattle.fields_table.specs.Shapes.{shape_of}
use Rattle.fields_table.specs.declared.shape.Shape.{Shape}
use Rattle.fields_table.specs.declared.shape.Shape.TheVariants.{Octets, Counted, Name, UncompressedName}
use Rattle.dns_edit.specs.Rdata.{name_count, names_start, string_end}

-- The number of names among the fields.
abbrev pub names_among : List Shape → ℕ
names_among [] = 0
names_among (Name ∷ shapes) = suc (names_among shapes)
names_among (UncompressedName pointers lowers ∷ shapes) = suc (names_among shapes)
names_among (_ ∷ shapes) = names_among shapes

-- Where the first name begins in RDATA with fields of these shapes, which begins at offset p: after the fields before it, which are of a fixed length or character strings.
abbrev pub names_after : List ℕ → List Shape → ℕ → ℕ
names_after b [] p = p
names_after b (Octets n ∷ shapes) p = names_after b shapes (p + n)
names_after b (Counted ∷ shapes) p = names_after b shapes (string_end b p)
names_after b (_ ∷ shapes) p = p

-- The shapes of some fields.
abbrev pub shapes_of : List Definition → List Shape
shapes_of [] = []
shapes_of (field ∷ fields) = shape_of field.1 ∷ shapes_of fields

-- A type has as many names as are among its fields.
abbrev pub has_its_names : TypeDefinition → Bool
has_its_names type = nat_eq (name_count type.number) (names_among (shapes_of type.fields))

-- The names in RDATA of each record type of `fields_table` are those among its fields.
abbrev pub NamesAreFields : Type 0
NamesAreFields = list_all has_its_names record_types ≡ true

-- The names of a type, if it has some, begin after the fields before them.
abbrev pub BeginsAfterFields : TypeDefinition → Type 0
BeginsAfterFields type = name_count type.number ≢ 0 → (b : List ℕ) (p : ℕ) → names_start b type.number p ≡ names_after b (shapes_of type.fields) p

-- So do those of each record type of `fields_table`.
abbrev pub NamesBeginAfterFields : Type 0
NamesBeginAfterFields = All BeginsAfterFields record_types

-- A record type with names in RDATA is one of `fields_table`.
abbrev pub NamesAreOfFields : Type 0
NamesAreOfFields = (n : ℕ) → name_count n ≢ 0 → IsTrue (list_any (λ type. type.number == n) record_types)
