-- The table in ranges of numbers.
use Rattle.std.specs.Prelude.{ℕ, List, [], ◌++◌, map, Option, Some, None, nat_lt, if◌then◌else◌}
use Rattle.fields_table.specs.RecordTypes.{TypeDefinition}
use Rattle.fields_table.specs.declared.kind.Kind.{Kind}
use Rattle.fields_table.specs.declared.range.TypeRange.{TypeRange}
use Rattle.fields_table.specs.declared.range.TypeRange.TheVariants.{From1, From24, From48, From99}
use Rattle.fields_table.specs.declared.table.TheConstants.{TYPES_FROM_1, TYPES_FROM_24, TYPES_FROM_48, TYPES_FROM_99}

-- the range of a number
abbrev pub range_of : ℕ → TypeRange
range_of rtype = if nat_lt rtype 24 then From1 else if nat_lt rtype 48 then From24 else if nat_lt rtype 99 then From48 else From99

-- the range after a range
abbrev pub next_range : TypeRange → Option TypeRange
next_range From1 = Some From24
next_range From24 = Some From48
next_range From48 = Some From99
next_range From99 = None

-- the definitions in rows of a constant, where texts and lists are plain records
abbrev types_of : List (ℕ × record { now : List ℕ } × record { now : List (record { now : List ℕ } × Kind) }) → List TypeDefinition
types_of rows = map (λ row. record { number = row.0; mnemonic = row.1.now; fields = map (λ f. (f.0.now, f.1)) row.2.now }) rows

-- the definitions of the record types in a range
unfoldable pub range_types : TypeRange → List TypeDefinition
range_types From1 = types_of TYPES_FROM_1.now
range_types From24 = types_of TYPES_FROM_24.now
range_types From48 = types_of TYPES_FROM_48.now
range_types From99 = types_of TYPES_FROM_99.now

-- those in the ranges after a range
abbrev pub types_after : TypeRange → List TypeDefinition
types_after From1 = range_types From24 ++ (range_types From48 ++ range_types From99)
types_after From24 = range_types From48 ++ range_types From99
types_after From48 = range_types From99
types_after From99 = []

-- those from a range on, if there is one
abbrev pub later_types : Option TypeRange → List TypeDefinition
later_types None = []
later_types (Some range) = range_types range ++ types_after range

-- the definitions of the record types in the table
abbrev pub table_types : List TypeDefinition
table_types = range_types From1 ++ types_after From1
