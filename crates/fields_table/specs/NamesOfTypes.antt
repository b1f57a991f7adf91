-- The record types by the names in their fields.
use Rattle.std.specs.Prelude.{ℕ, Bool, true, false, List, map, filter}
use Rattle.std.specs.List.{list_any}
use Rattle.fields_table.specs.RecordTypes.{record_types}
use Rattle.fields_table.specs.Shapes.{shape_of}
use Rattle.fields_table.specs.declared.shape.Shape.{Shape}
use Rattle.fields_table.specs.declared.shape.Shape.TheVariants.{Name, UncompressedName}

-- a name that may be compressed
abbrev pub may_be_compressed : Shape → Bool
may_be_compressed Name = true
may_be_compressed _ = false

-- a name that may have a pointer when it is read
abbrev pub may_have_pointer : Shape → Bool
may_have_pointer Name = true
may_have_pointer (UncompressedName pointers lowers) = pointers
may_have_pointer _ = false

-- a name that is lowercased in canonical form
abbrev pub is_lowercased : Shape → Bool
is_lowercased Name = true
is_lowercased (UncompressedName pointers lowers) = lowers
is_lowercased _ = false

-- the numbers of the record types with a field that passes the test
abbrev pub types_with : (Shape → Bool) → List ℕ
types_with test = map (λ type. type.number) (filter (λ type. list_any (λ field. test (shape_of field.1)) type.fields) record_types)
