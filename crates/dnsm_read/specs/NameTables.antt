-- The shapes of the fields of record types.
use Rattle.std.specs.Prelude.{List, map}
use Rattle.fields_table.specs.Shapes.{shape_of}
use Rattle.fields_table.specs.Table.{Definition}
use Rattle.fields_table.specs.declared.shape.Shape.{Shape}

-- the shapes of fields
abbrev pub shapes_of : List Definition → List Shape
shapes_of fields = map (λ field. shape_of field.1) fields
