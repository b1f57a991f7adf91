-- An RDATA value: its type, and its parts, which have the layout of its type.
use Rattle.std.proofs.Common.{ℕ, ◌≤◌, List, length, length-take, arith}
use Rattle.dns_name.specs.Parsers.{seen, offset}
use Rattle.dns_name.specs.declared.parser.Parser.{Parser}
use Rattle.dns_wire.specs.Parts.{Part}
use Rattle.dns_data.specs.Layout.{IsLaidOut}
use Rattle.fields_table.specs.FieldData.{type_layout, parts_from}
use Rattle.fields_table.specs.EncodedData.{data_is_there}
use Rattle.fields_table.specs.declared.field_data.FieldData.{FieldData}
use Rattle.fields_table.specs.Table.{kinds_of}
use Rattle.fields_table.specs.LaidOut.{laid_out}

abbrev pub rtype_of : FieldData → ℕ
rtype_of d = d.rtype

abbrev pub parts_of : FieldData → List Part
parts_of d = parts_from d.rtype d.parser

-- a parser's offset is within the octets that it sees
pub offset_within : (p : Parser) → offset p ≤ length (seen p)
offset_within p = let l = p.before_end in let w = p.within in let n = length-take p.end p.octets.now in omega arith

-- the parts of a value have the layout of its type
pub any_laid_out : (d : FieldData) → IsLaidOut (type_layout (rtype_of d)) (parts_of d)
any_laid_out d =
    let h = data_is_there _ _ _ d.encoded in
    (d.short, laid_out (seen d.parser) (kinds_of d.rtype) (offset d.parser) h.0 (parts_of d) h.1)
