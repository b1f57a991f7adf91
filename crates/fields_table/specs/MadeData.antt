-- Octets that are made of parts.
use Rattle.std.specs.Prelude.{◌≡◌, ℕ, List}
use Rattle.dns_wire.specs.Parts.{Part, AreParts}
use Rattle.dns_data.specs.Layout.{IsLaidOut}
use Rattle.fields_table.specs.DataOrders.{octets_of_parts}
use Rattle.fields_table.specs.Layouts.{layout_of}
use Rattle.fields_table.specs.OwnedFields.{AreThere, parts_in}
use Rattle.fields_table.specs.Table.{kinds_of}

-- parts with the layout of a type are what is read from their uncompressed octets
abbrev pub MadePartsReadBack : Type 0
MadePartsReadBack = (rtype : ℕ) (parts : List Part) → IsLaidOut (layout_of (kinds_of rtype)) parts → AreParts parts → AreThere rtype (octets_of_parts parts)
    × (parts_in rtype (octets_of_parts parts) ≡ parts)
