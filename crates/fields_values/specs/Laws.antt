-- Theorems on values.
use Rattle.std.specs.Prelude.{◌≡◌, ◌≤◌, ℕ, List, Result, map}
use Rattle.dns_data.specs.Layout.{IsLaidOut}
use Rattle.fields_table.specs.Layouts.{layout_of, most}
use Rattle.fields_table.specs.Table.{kinds_of}
use Rattle.fields_table.specs.Values.{part_value}
use Rattle.fields_table.specs.declared.kind.Kind.{Kind}
use Rattle.fields_table.specs.declared.owned.OwnedFieldData.{OwnedFieldData}
use Rattle.dns_wire.specs.Parts.{Part, parts_size}
use Rattle.fields_table.specs.declared.value.Value.{Value}
use Rattle.fields_values.specs.GivenValues.{AreReadFrom, HaveOctets, given}
use Rattle.fields_values.specs.NewValues.{IsValueOf}
use Rattle.fields_values.specs.ReadBack.{ReadsBack}
use Rattle.fields_values.specs.ValueData.{AreValuesOf, MakesData, MakesParts}
use Rattle.fields_values.specs.declared.new_value.NewValue.{NewValue}
use Rattle.fields_values.specs.declared.value_error.ValueError.{ValueError}

-- what is read from a field is the value in it
abbrev pub ValuesReadBack : Type 0
ValuesReadBack = (kind : Kind) (value : NewValue) (part : Part) → IsValueOf kind value part → ReadsBack value (part_value kind part)

-- a value is at most one part in a field of a kind
abbrev pub ValuesAreOne : Type 0
ValuesAreOne = (kind : Kind) (value : NewValue) (first second : Part) → IsValueOf kind value first → IsValueOf kind value second → first ≡ second

-- the values that are read from the fields of a type are values of these fields, with the same parts
abbrev pub ReadValuesAreTaken : Type 0
ReadValuesAreTaken =
    (rtype : ℕ) (parts : List Part) (read : List Value) → IsLaidOut (layout_of (kinds_of rtype)) parts → HaveOctets parts → AreReadFrom (kinds_of rtype) parts read
    → AreValuesOf (kinds_of rtype) (map given read) parts

-- values that have parts, of at most 65,535 octets, make the record data with these parts
abbrev pub ValuesAreMade : Type 0
ValuesAreMade =
    (rtype : ℕ) (values : List NewValue) (parts : List Part) (result : Result OwnedFieldData ValueError)
    → AreValuesOf (kinds_of rtype) values parts → parts_size parts ≤ most → MakesData rtype values result → MakesParts rtype parts result
