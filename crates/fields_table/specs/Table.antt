-- The fields of record types, and the table as the code stores it.
pub use Rattle.fields_table.specs.RecordTypes.{Definition}
use Rattle.std.specs.Prelude.{ℕ, ◌+◌, List, [], ◌∷◌, map, ◌==◌, nat_le, ◌&&◌, Bool, true, codes, if◌then◌else◌}
use Rattle.std.specs.Borrow.{Bor}
use Rattle.fields_table.specs.RecordTypes.{TypeDefinition, record_types}
use Rattle.fields_table.specs.declared.kind.Kind.{Kind}
use Rattle.fields_table.specs.declared.kind.Kind.TheVariants.{Opaque}

-- a field of the table: its name and its kind
abbrev pub Field : Type 0
Field = Bor (List ℕ) × Kind

-- a record type of the table: its number, its mnemonic and its fields
abbrev pub Row : Type 0
Row = ℕ × Bor (List ℕ) × Bor (List Field)

abbrev pub definitions : List Field → List Definition
definitions fields = map (λ f. (f.0.now, f.1)) fields

abbrev pub kinds_in : List Definition → List Kind
kinds_in ds = map (λ d. d.1) ds

-- the kinds of these fields
abbrev pub kinds : List Field → List Kind
kinds fields = kinds_in (definitions fields)

-- the definition in a row
abbrev pub type_of : Row → TypeDefinition
type_of row = record { number = row.0; mnemonic = row.1.now; fields = definitions row.2.now }

-- the definitions of these record types
abbrev pub types_in : List Row → List TypeDefinition
types_in rows = map type_of rows

-- whether the numbers of the rows increase, and each is at least `least`
abbrev pub are_above : ℕ → List Row → Bool
are_above least [] = true
are_above least (row ∷ rows) = nat_le least row.0 && are_above (row.0 + 1) rows

-- the fields of this record type, by its first definition; octets if it has none
abbrev pub fields_in : List TypeDefinition → ℕ → List Definition
fields_in [] rtype = (codes "data", Opaque) ∷ []
fields_in (type ∷ types) rtype = if type.number == rtype then type.fields else fields_in types rtype

-- the fields of this record type
unfoldable pub definitions_of : ℕ → List Definition
definitions_of rtype = fields_in record_types rtype

-- the kinds of its fields
abbrev pub kinds_of : ℕ → List Kind
kinds_of rtype = kinds_in (definitions_of rtype)
