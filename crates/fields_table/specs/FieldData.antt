-- RDATA as a view.
use Rattle.std.specs.Prelude.{◌≡◌, ℕ, List, true}
use Rattle.dns_name.specs.Parsers.{seen, offset}
use Rattle.dns_name.specs.declared.parser.Parser.{Parser}
use Rattle.dns_wire.specs.Parts.{Part}
use Rattle.dns_data.specs.Layout.{Layout}
use Rattle.fields_table.specs.declared.kind.Kind.{Kind}
use Rattle.fields_table.specs.Layouts.{layout_of, rdata_layout}
use Rattle.fields_table.specs.Table.{kinds_of}
use Rattle.fields_table.specs.EncodedData.{parts_read, is_data_at}

-- the layout of a record type
abbrev pub type_layout : ℕ → Layout
type_layout rtype = rdata_layout (kinds_of rtype)

-- fields of these kinds are encoded at the parser's offset
abbrev pub AreAt : List Kind → Parser → Type 0
AreAt kinds parser = is_data_at (seen parser) (layout_of kinds) (offset parser) ≡ true

-- their parts
abbrev pub parts_at : List Kind → Parser → List Part
parts_at kinds parser = parts_read (seen parser) (layout_of kinds) (offset parser)

-- the fields of this type are encoded at the parser's offset
abbrev pub IsThere : ℕ → Parser → Type 0
IsThere rtype parser = AreAt (kinds_of rtype) parser

-- their parts
abbrev pub parts_from : ℕ → Parser → List Part
parts_from rtype parser = parts_at (kinds_of rtype) parser
