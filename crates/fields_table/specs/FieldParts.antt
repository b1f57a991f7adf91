-- The fields of RDATA: each with its name, its kind and its part.
use Rattle.std.specs.Prelude.{ℕ, List, [], ◌∷◌}
use Rattle.dns_wire.specs.Parts.{Part}
use Rattle.fields_table.specs.declared.fields.Field.{Field}
use Rattle.fields_table.specs.declared.fields.Fields.{Fields}
use Rattle.fields_table.specs.declared.kind.Kind.{Kind}
use Rattle.fields_table.specs.FieldsLeft.{parts_from}
use Rattle.fields_table.specs.Table.{Definition, definitions}
use Rattle.fields_table.specs.EncodedFields.{part_of}

-- a field: its name, its kind and its part
pub record NamedPart : Type 0 where
  pub name : List ℕ
  pub kind : Kind
  pub part : Part

-- the fields with these parts, in order
abbrev pub named_parts : List Definition → List Part → List NamedPart
named_parts [] parts = []
named_parts (d ∷ ds) [] = []
named_parts (d ∷ ds) (part ∷ parts) = record { name = d.0; kind = d.1; part = part } ∷ named_parts ds parts

-- a field of an iterator
abbrev pub named_part : Field → NamedPart
named_part field = record { name = field.name.now; kind = field.kind; part = part_of field.encoded }

-- the remaining fields of an iterator
abbrev pub fields_left : Fields → List NamedPart
fields_left fields = named_parts (definitions fields.left.now) (parts_from fields.left.now fields.parser)
