-- Fields that are encoded at a parser's offset.
use Rattle.std.specs.Prelude.{List}
use Rattle.dns_name.specs.declared.parser.Parser.{Parser}
use Rattle.dns_wire.specs.Parts.{Part}
use Rattle.fields_table.specs.FieldData.{AreAt, parts_at}
use Rattle.fields_table.specs.Table.{Field, kinds}

-- the fields are encoded at the parser's offset
abbrev pub AreLeft : List Field → Parser → Type 0
AreLeft fields parser = AreAt (kinds fields) parser

-- their parts
abbrev pub parts_from : List Field → Parser → List Part
parts_from fields parser = parts_at (kinds fields) parser
