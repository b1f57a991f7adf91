-- The record types that an iterator has left.
use Rattle.std.specs.Prelude.{List, ◌++◌}
use Rattle.fields_table.specs.Ranges.{later_types}
use Rattle.fields_table.specs.RecordTypes.{TypeDefinition}
use Rattle.fields_table.specs.Table.{types_in}
use Rattle.fields_table.specs.declared.rows.RecordTypes.{RecordTypes}

-- the definitions that are left
abbrev pub types_left : RecordTypes → List TypeDefinition
types_left types = types_in types.left.now ++ later_types types.range
