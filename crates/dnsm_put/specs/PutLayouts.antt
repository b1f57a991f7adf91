-- That the layouts of RDATA, by the number of the record type, are those of the fields of the types.
use Rattle.std.specs.Prelude.{◌≡◌, ℕ, ◌+◌, List, [], ◌∷◌, Option, None, Some, map, option_map}
use Rattle.fields_table.specs.RecordTypes.{record_types}
use Rattle.fields_table.specs.declared.shape.Shape.{Shape}
use Rattle.fields_table.specs.declared.shape.Shape.TheVariants.{Octets, Name}
use Rattle.dnsm_read.specs.NameTables.{shapes_of}
use Rattle.dnsm_put.specs.Rdata.{type_layout}
use Rattle.dnsm_put.specs.declared.rdata.Layout.{Layout}
use Rattle.dnsm_put.specs.declared.rdata.Layout.TheVariants as layouts

-- the octets of fields, if each has a fixed length
abbrev pub fixed_octets : List Shape → Option ℕ
fixed_octets [] = Some 0
fixed_octets (Octets n ∷ shapes) = option_map (λ k. n + k) (fixed_octets shapes)
fixed_octets (_ ∷ shapes) = None

-- two names that may be compressed, and then fields of a fixed length
abbrev pub two_names : Option ℕ → Layout
two_names (Some n) = layouts.TwoNames n
two_names None = layouts.Plain

-- fields after a name that may be compressed
abbrev pub after_name : List Shape → Layout
after_name [] = layouts.Name 0
after_name (Name ∷ shapes) = two_names (fixed_octets shapes)
after_name (_ ∷ shapes) = layouts.Plain

-- fields after n octets
abbrev pub after_octets : ℕ → List Shape → Layout
after_octets n (Name ∷ []) = layouts.Name n
after_octets n _ = layouts.Plain

-- what `dnsm_put` takes fields of these shapes for
abbrev pub put_layout : List Shape → Layout
put_layout (Name ∷ shapes) = after_name shapes
put_layout (Octets n ∷ shapes) = after_octets n shapes
put_layout _ = layouts.Plain

-- `dnsm_put` takes each record type for what its fields are
abbrev pub PutLayoutsAreFields : Type 0
PutLayoutsAreFields = map (λ type. put_layout (shapes_of type.fields)) record_types ≡ map (λ type. type_layout type.number) record_types
